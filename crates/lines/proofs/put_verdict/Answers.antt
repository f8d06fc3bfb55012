-- By the verdict: each has its word and its numbers.
use Rattle.std.proofs.Common.{Ok}
use mathlib.Core.Path.{refl, ap}
use native.Mathlib.Omega.{arith}
use Rattle.entries.specs.Text.{answer_line}
use Rattle.entries.proofs.TextLaws.{answered, answered_alone}
use Rattle.lines.proofs.put_verdict.Goals as goal

pub put_unfounded-requires : goal.put_unfounded-requires
put_unfounded-requires c = rw c.in-Unfounded.is at c.requires

pub returns-in-Range : goal.returns-in-Range
unfolding answer_line
returns-in-Range c =
    let e = answered_alone (ap Ok c.in-Range.is) c.args.report.now refl c.put_one.ensures.appends c.put_one.ensures.upper_bound in record { appends = e.0; upper_bound = e.1 }

pub returns-in-Rule : goal.returns-in-Rule
unfolding answer_line
returns-in-Rule c =
    let e = answered_alone (ap Ok c.in-Rule.is) c.args.report.now refl c.put_one-in-Rule.ensures.appends c.put_one-in-Rule.ensures.upper_bound in record { appends = e.0; upper_bound = e.1 }

pub returns-in-Constraint : goal.returns-in-Constraint
unfolding answer_line
returns-in-Constraint c =
    let e = answered_alone (ap Ok c.in-Constraint.is) c.args.report.now refl c.put_one-in-Constraint.ensures.appends c.put_one-in-Constraint.ensures.upper_bound in record { appends = e.0; upper_bound = e.1 }

pub returns-in-Unfounded : goal.returns-in-Unfounded
returns-in-Unfounded c =
    let e = answered (ap Ok c.in-Unfounded.is) c.args.report.now (c.put_unfounded.ensures.appends, c.put_unfounded.ensures.upper_bound) in record { appends = e.0; upper_bound = e.1 }

pub returns-in-Stable : goal.returns-in-Stable
unfolding answer_line
returns-in-Stable c =
    let e = answered_alone (ap Ok c.in-Stable.is) c.args.report.now refl c.put_word.ensures (omega (arith, c.put_word.ensures.next)) in record { appends = e.0; upper_bound = e.1 }
