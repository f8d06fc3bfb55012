-- The aims that rules lifted arrive, and the values become the targets; or nothing changes.
use mathlib.Core.Path.{refl}
use native.Mathlib.Omega.{arith}
use Rattle.format.specs.Limits.{max_variables}
use Rattle.reader.proofs.Published.{limited}
use Rattle.reduct.proofs.Fills.{zeros}
use Rattle.targets.proofs.LiftLaws.{running_small, aiming_start, aiming_arrived}
use Rattle.targets.proofs.leaping.leap.Goals as goal

pub draw_back-requires : goal.draw_back-requires
draw_back-requires c = record { variables_in_bounds = ((limited c.requires.accepted_as).inside, (limited c.requires.accepted_as).few_variables); aims_len = (refl, running_small c.requires.some_run.run) }

pub lift_all-requires : goal.lift_all-requires
lift_all-requires c = record { accepted_as = c.requires.accepted_as; some_aims = record { program = _; reckoning = _; assigned = _; first = _; aiming = aiming_start c.requires.some_run.run c.args.strides.now c.args.target.now c.requires.accepted_as _ _ (zeros max_variables) c.draw_back.ensures.filled }; aims_len = (c.draw_back.ensures.aims_len_2, c.line_length-most.ensures) }

pub arrived-requires : goal.arrived-requires
arrived-requires c = (limited c.requires.accepted_as).few_variables

pub returns-then-not-arrived : goal.returns-then-not-arrived
returns-then-not-arrived c = record { model_len_2 = c.requires.model_len.0; waiting_len_2 = c.requires.waiting_len; running = λ P R θ k. k; model_bound = omega arith }

pub land-requires : goal.land-requires
land-requires c = record { variables_le_max_variables = ((limited c.requires.accepted_as).few_variables, c.requires.model_len.0); waiting_len = c.requires.waiting_len }

pub returns : goal.returns
returns c = let e = c.if-not-arrived.false in record { model_len_2 = c.land.ensures.model_len; waiting_len_2 = c.land.ensures.waiting_len_2; running = λ P R θ k. (c.land.ensures.by_index _ _ _ _ _ _ _ _ _ (aiming_arrived k c.args.strides.now c.args.target.now c.requires.accepted_as _ _ (zeros max_variables) c.draw_back.ensures.filled _ c.lift_all.ensures.aims_kept c.arrived.ensures e)).0.run; model_bound = (c.land.ensures.by_index _ _ _ _ _ _ _ _ _ (aiming_arrived c.requires.some_run.run c.args.strides.now c.args.target.now c.requires.accepted_as _ _ (zeros max_variables) c.draw_back.ensures.filled _ c.lift_all.ensures.aims_kept c.arrived.ensures e)).1 }
