-- The loaded values are the assigned ones: the first outside its range is the answer, else the run decides.
use Rattle.std.specs.Prelude.{Option, ℕ}
use native.Mathlib.Omega.{arith}
use mathlib.Core.Path.{refl, subst}
use Rattle.reader.proofs.Published.{limited}
use Rattle.reduct.proofs.AssignedLaws.{one_valuation, right_range}
use Rattle.least.proofs.CallLaws.{wrong_range}
use Rattle.reduct.proofs.Fills.{zeros, loaded_whole}
use Rattle.reduct.specs.Filling.{OutsideIs}
use Rattle.format.specs.Limits.{max_variables}
use Rattle.program.specs.Program.{variables_at}
use Rattle.program.specs.Readings.{valued}
use Rattle.least.proofs.call.solve_in_ranges.Goals as goal

pub load-requires : goal.load-requires
load-requires c = let f = limited c.requires.accepted_as in
    (omega arith, refl)

pub first_outside-outside-requires : goal.first_outside-outside-requires
first_outside-outside-requires c = let f = limited c.requires.accepted_as in
    (f.inside, f.few_variables)

pub solve-requires : goal.solve-requires
solve-requires c = let l = loaded_whole c.args.assignment.now c.args.counts.variables c.requires.assignment_len.0 c.load.ensures.filled (zeros max_variables) in
    let o = subst (λ (q : Option ℕ).
    OutsideIs (variables_at c.args.file.now c.args.counts.variables) (valued c.load.new.values) c.args.counts.variables q)
    c.in-None.is c.first_outside-outside.ensures in
    record { accepted_as = c.requires.accepted_as; assignment_len = (c.requires.assignment_len.0, c.requires.assignment_len.1); by_index = l; all_inside = right_range c.args.file.now c.args.counts c.requires.accepted_as c.args.assignment.now _ (one_valuation _ _ l) o }

pub returns-in-Some : goal.returns-in-Some
returns-in-Some c = let l = loaded_whole c.args.assignment.now c.args.counts.variables c.requires.assignment_len.0 c.load.ensures.filled (zeros max_variables) in
    let o = subst (λ (q : Option ℕ).
    OutsideIs (variables_at c.args.file.now c.args.counts.variables) (valued c.load.new.values) c.args.counts.variables q)
    c.in-Some.is c.first_outside-outside.ensures in
    wrong_range c.args.file.now c.args.counts c.requires.accepted_as c.args.assignment.now c.args.buffer.now c.requires.assignment_len.0 c.requires.assignment_len.1 _ _ (one_valuation _ _ l) o
