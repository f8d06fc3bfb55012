-- The run ends in the least model, which is written, or where there is no model.
use Rattle.std.specs.Prelude.{Result}
use mathlib.Core.Path.{refl, sym, subst}
use mathlib.Core.Bool.{true≢false}
use Rattle.format.specs.Limits.{max_variables}
use Rattle.program.specs.Readings.{valued}
use Rattle.reader.proofs.Published.{reads_accepts, limited}
use Rattle.meaning.specs.Reduct.{reduct}
use Rattle.reduct.proofs.AssignedLaws.{in_ranges, zero_past, one_valuation}
use Rattle.reduct.proofs.Fills.{zeros}
use Rattle.run.specs.Running.{EndsWith}
use Rattle.ascent.proofs.LevelLaws.{zero_sides}
use Rattle.least.proofs.CallLaws.{model_small, a_model, a_none}
use Rattle.least.proofs.call.solve.Goals as goal
use Rattle.run.specs.declared.NoModel.{NoModel}

pub run-ending-requires : goal.run-ending-requires
run-ending-requires c = let p = one_valuation _ _ c.requires.by_index in
    let θ = valued c.args.values.now in
    let q = in_ranges c.args.file.now c.args.counts c.requires.accepted_as c.args.assignment.now c.requires.assignment_len.0 c.requires.all_inside θ p in
    record { accepted_as = c.requires.accepted_as; within = q; rule_met = λ t. absurd (true≢false (sym t)); level_past = (zero_sides c.requires.accepted_as θ q, refl); by_index = zero_past c.args.file.now c.args.counts c.requires.accepted_as c.args.assignment.now c.requires.assignment_len.0 c.requires.all_inside θ p _ (zeros max_variables); model_len = refl }

pub write_values-requires : goal.write_values-requires
write_values-requires c = let p = one_valuation _ _ c.requires.by_index in
    let θ = valued c.args.values.now in
    let y = reads_accepts c.requires.accepted_as in
    let x = subst (λ (q : Result (Unit {0}) NoModel). EndsWith y.meant (reduct y.meant) θ (valued c.run-ending.new.model) q) c.in-Ok.is (c.run-ending.ensures.ends_with y.meant y.accepts) in
    record { n_le_max_variables = ((limited c.requires.accepted_as).few_variables, c.requires.assignment_len.1); by_index = model_small c.args.file.now c.args.counts c.requires.accepted_as c.args.assignment.now c.args.buffer.now c.requires.assignment_len.0 c.requires.assignment_len.1 c.requires.all_inside θ p c.run-ending.new.model x }

pub returns-in-Ok : goal.returns-in-Ok
returns-in-Ok c = let p = one_valuation _ _ c.requires.by_index in
    let θ = valued c.args.values.now in
    let y = reads_accepts c.requires.accepted_as in
    let x = subst (λ (q : Result (Unit {0}) NoModel). EndsWith y.meant (reduct y.meant) θ (valued c.run-ending.new.model) q) c.in-Ok.is (c.run-ending.ensures.ends_with y.meant y.accepts) in
    a_model c.args.file.now c.args.counts c.requires.accepted_as c.args.assignment.now c.args.buffer.now c.requires.assignment_len.0 c.requires.assignment_len.1 c.requires.all_inside θ p (valued c.run-ending.new.model) _ x c.write_values.ensures

pub returns-in-Err : goal.returns-in-Err
returns-in-Err c = let p = one_valuation _ _ c.requires.by_index in
    let θ = valued c.args.values.now in
    let y = reads_accepts c.requires.accepted_as in
    let x = subst (λ (q : Result (Unit {0}) NoModel). EndsWith y.meant (reduct y.meant) θ (valued c.run-ending.new.model) q) c.in-Err.is (c.run-ending.ensures.ends_with y.meant y.accepts) in
    a_none c.args.file.now c.args.counts c.requires.accepted_as c.args.assignment.now c.args.buffer.now c.requires.assignment_len.0 c.requires.assignment_len.1 c.requires.all_inside θ p x
