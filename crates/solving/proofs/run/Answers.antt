-- At the starting ends the values climb; sweeps end the run or leave the rest.
use Rattle.program.specs.Readings.{valued}
use Rattle.meaning.specs.Reduct.{reduct}
use Rattle.meaning.proofs.Narrowing.{reduct_narrows}
use Rattle.reader.proofs.Published.{limited}
use Rattle.ascent.proofs.ValueLaws.{reached_ended, reached_open}
use Rattle.solving.proofs.SolvingLaws.{begun, some_begun}
use Rattle.solving.proofs.run.Goals as goal

pub start_sides-requires : goal.start_sides-requires
start_sides-requires c = let f = limited c.requires.accepted_as in record { n_in_bounds = (f.inside, f.few_variables); sides_len = c.requires.level_past.1 }

pub climb-climbed-requires : goal.climb-climbed-requires
climb-climbed-requires c = record { accepted_as = c.requires.accepted_as; some_climbing = some_begun c.requires.accepted_as c.args.assigned.now c.requires.within c.args.full c.requires.rule_met c.args.sides.now _ c.requires.level_past.0 c.start_sides.ensures.sides_start; sides_len = c.start_sides.ensures.sides_len_2 }

pub values_of-requires : goal.values_of-requires
values_of-requires c = let f = limited c.requires.accepted_as in
    record { n_in_bounds = (f.inside, f.few_variables); model_len = c.requires.model_len }

pub finish-requires : goal.finish-requires
finish-requires c = record {
  accepted_as = c.requires.accepted_as;
  within = c.requires.within;
  progress = λ P x. reached_open c.requires.accepted_as x (reduct_narrows P) (valued c.args.assigned.now) _ c.requires.by_index c.values_of.ensures.filled
      (c.climb-climbed.ensures.climb_is P (reduct P) (valued c.args.assigned.now) (valued c.args.assigned.now) x (begun c.requires.accepted_as c.args.assigned.now c.requires.within c.args.full c.requires.rule_met c.args.sides.now _ c.requires.level_past.0 c.start_sides.ensures.sides_start P x))
      c.in-None.is;
  model_len = c.values_of.ensures.model_len_2;
}

pub returns-in-Some : goal.returns-in-Some
returns-in-Some c = record {
  model_len_2 = c.values_of.ensures.model_len_2;
  ends_with = λ P x. reached_ended c.requires.accepted_as x (reduct_narrows P) (valued c.args.assigned.now) _ c.requires.by_index c.values_of.ensures.filled
      (c.climb-climbed.ensures.climb_is P (reduct P) (valued c.args.assigned.now) (valued c.args.assigned.now) x (begun c.requires.accepted_as c.args.assigned.now c.requires.within c.args.full c.requires.rule_met c.args.sides.now _ c.requires.level_past.0 c.start_sides.ensures.sides_start P x))
      c.in-Some.is;
}
