-- At the starting ends, where heads of undecided rules have their stops, the values climb; sweeps end the run or leave the rest.
use mathlib.Core.Path.{refl}
use Rattle.reader.proofs.Published.{limited}
use Rattle.bounding.proofs.CallLaws.{some_climbs, climbed_ended, climbed_open}
use Rattle.bounding.proofs.call.run.Goals as goal

pub start_sides-requires : goal.start_sides-requires
start_sides-requires c = let l = limited c.requires.accepted_as in record { n_in_bounds = (l.inside, l.few_variables); sides_len = refl }

pub climb-climbed-requires : goal.climb-climbed-requires
climb-climbed-requires c = record { accepted_as = c.requires.accepted_as; some_climbing = some_climbs c.requires.accepted_as c.requires.fits_ranges c.args.others.now c.args.stops.now c.requires.at_others c.requires.at_stops c.start_sides.ensures.sides_start c.free_heads.ensures.freed; sides_len = c.free_heads.ensures.sides_len_2 }

pub values_of-requires : goal.values_of-requires
values_of-requires c = let l = limited c.requires.accepted_as in
    record { n_in_bounds = (l.inside, l.few_variables); model_len = c.requires.model_len }

pub finish-requires : goal.finish-requires
finish-requires c = let w = climbed_open c.requires.accepted_as c.requires.fits_ranges c.args.others.now c.args.stops.now c.requires.at_others c.requires.at_stops c.start_sides.ensures.sides_start c.free_heads.ensures.freed _ c.climb-climbed.result c.climb-climbed.ensures.climb_is c.requires.by_index c.values_of.ensures.filled c.in-None.is in
    record { accepted_as = c.requires.accepted_as; fits_ranges = c.requires.fits_ranges; at_others = c.requires.at_others; at_stops = c.requires.at_stops; on_the_way = w; model_len = c.values_of.ensures.model_len_2 }

pub returns-in-Some : goal.returns-in-Some
returns-in-Some c = let w = climbed_ended c.requires.accepted_as c.requires.fits_ranges c.args.others.now c.args.stops.now c.requires.at_others c.requires.at_stops c.start_sides.ensures.sides_start c.free_heads.ensures.freed _ c.climb-climbed.result c.climb-climbed.ensures.climb_is c.requires.by_index c.values_of.ensures.filled c.in-Some.is in
    record { model_len_2 = c.values_of.ensures.model_len_2; ends_bounded = w }
