-- The ends are set over zeros, and the run ends in the bounds, which are written.
use mathlib.Core.Path.{refl}
use Rattle.format.specs.Limits.{max_variables}
use Rattle.reader.proofs.Published.{limited}
use Rattle.reduct.proofs.Fills.{zeros}
use Rattle.bounding.proofs.CallLaws.{others_whole, stops_whole, zero_past, ends_bounds, bounds_small, bounds_written}
use Rattle.bounding.proofs.call.bound.Goals as goal

pub set_ends-requires : goal.set_ends-requires
set_ends-requires c = let l = limited c.requires.accepted_as in record { variables_in_bounds = (l.inside, l.few_variables); others_len = (refl, refl) }

pub run-requires : goal.run-requires
run-requires c = let z = zeros max_variables in
    let o = others_whole c.requires.accepted_as c.requires.fits_ranges z c.set_ends.ensures.filled in
    let s = stops_whole c.requires.accepted_as c.requires.fits_ranges z c.set_ends.ensures.filled_2 in
    record { accepted_as = c.requires.accepted_as; fits_ranges = c.requires.fits_ranges; at_others = o; at_stops = s; by_index = zero_past c.requires.accepted_as c.requires.fits_ranges _ z; model_len = refl }

pub write_values-requires : goal.write_values-requires
write_values-requires c = let w = ends_bounds c.requires.accepted_as c.requires.fits_ranges _ c.run.result c.run.ensures.ends_bounded in
    record { n_le_max_variables = ((limited c.requires.accepted_as).few_variables, c.requires.variables_in_bounds); by_index = bounds_small c.requires.accepted_as c.requires.fits_ranges _ w }

pub returns : goal.returns
returns c = let w = ends_bounds c.requires.accepted_as c.requires.fits_ranges _ c.run.result c.run.ensures.ends_bounded in
    bounds_written c.requires.accepted_as _ w _ _ c.write_values.ensures
