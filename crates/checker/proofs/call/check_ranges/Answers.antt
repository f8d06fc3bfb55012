-- The loaded values are the assigned ones: the first outside its range is the answer, else the rules decide.
use Rattle.std.specs.Prelude.{Option, ℕ}
use native.Mathlib.Omega.{arith}
use mathlib.Core.Path.{refl, subst}
use Rattle.format.specs.Limits.{max_variables}
use Rattle.program.specs.Program.{variables_at}
use Rattle.reduct.specs.Filling.{OutsideIs}
use Rattle.reader.proofs.Published.{limited}
use Rattle.reduct.proofs.AssignedLaws.{one_valuation}
use Rattle.reduct.proofs.Fills.{zeros, loaded_whole}
use Rattle.checker.proofs.CheckLaws.{out_of_range, all_within, checked}
use Rattle.program.specs.Readings.{valued}
use Rattle.checker.proofs.call.check_ranges.Goals as goal

pub load-requires : goal.load-requires
load-requires c = let f = limited c.requires.accepted_as in
    (omega arith, refl)

pub first_outside-outside-requires : goal.first_outside-outside-requires
first_outside-outside-requires c = let f = limited c.requires.accepted_as in (f.inside, f.few_variables)

pub check_rules-requires : goal.check_rules-requires
check_rules-requires c = let l = loaded_whole c.args.assignment.now c.args.counts.variables c.requires.assignment_len.0 c.load.ensures.filled (zeros max_variables) in
    let o = subst (λ (q : Option ℕ).
    OutsideIs (variables_at c.args.file.now c.args.counts.variables) (valued c.load.new.values) c.args.counts.variables q)
    c.in-None.is c.first_outside-outside.ensures in
    record { accepted_as = c.requires.accepted_as; within = all_within c.args.file.now c.args.counts c.requires.accepted_as c.args.assignment.now c.args.report.now c.requires.assignment_len.0 c.requires.assignment_len.1 _ (one_valuation _ _ l) o; variables_in_bounds = c.requires.assignment_len.1 }

pub returns-in-Some : goal.returns-in-Some
returns-in-Some c = let l = loaded_whole c.args.assignment.now c.args.counts.variables c.requires.assignment_len.0 c.load.ensures.filled (zeros max_variables) in
    let o = subst (λ (q : Option ℕ).
    OutsideIs (variables_at c.args.file.now c.args.counts.variables) (valued c.load.new.values) c.args.counts.variables q)
    c.in-Some.is c.first_outside-outside.ensures in
    out_of_range c.args.file.now c.args.counts c.requires.accepted_as c.args.assignment.now c.args.report.now c.requires.assignment_len.0 c.requires.assignment_len.1 _ (one_valuation _ _ l) _ o

pub returns-in-None : goal.returns-in-None
returns-in-None c = let l = loaded_whole c.args.assignment.now c.args.counts.variables c.requires.assignment_len.0 c.load.ensures.filled (zeros max_variables) in
    checked c.args.file.now c.args.counts c.requires.accepted_as c.args.assignment.now c.args.report.now c.requires.assignment_len.0 c.requires.assignment_len.1 _ (one_valuation _ _ l) c.check_rules.ensures
