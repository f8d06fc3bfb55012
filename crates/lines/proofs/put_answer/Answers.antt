-- A refusal has its line, and a verdict its text.
use mathlib.Core.Path.{refl}
use Rattle.entries.proofs.TextLaws.{answered, answered_alone}
use Rattle.lines.proofs.put_answer.Goals as goal

pub put_verdict-requires : goal.put_verdict-requires
put_verdict-requires c = rw c.in-Ok.is at c.requires

pub returns-in-Err : goal.returns-in-Err
returns-in-Err c =
    let e = answered_alone c.in-Err.is c.args.report.now refl c.put_refused.ensures.appends c.put_refused.ensures.upper_bound in record { appends = e.0; upper_bound = e.1 }

pub returns-in-Ok : goal.returns-in-Ok
returns-in-Ok c =
    let e = answered c.in-Ok.is c.args.report.now (c.put_verdict.ensures.appends, c.put_verdict.ensures.upper_bound) in record { appends = e.0; upper_bound = e.1 }
