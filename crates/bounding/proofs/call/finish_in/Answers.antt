-- The tables are those of the rules with lent ranges, and the values are on the way.
use Rattle.bounding.proofs.CallLaws.{underway, some_way}
use Rattle.bounding.proofs.call.finish_in.Goals as goal

pub settle-requires : goal.settle-requires
settle-requires c = record { accepted_as = c.requires.accepted_as; some_way = some_way c.requires.accepted_as c.requires.fits_ranges c.args.others.now c.args.stops.now c.requires.at_others c.requires.at_stops c.set_masks.ensures.offsets_of c.set_masks.ensures.lent_masks c.args.model.now c.requires.on_the_way; model_len = c.requires.model_len }

pub returns : goal.returns
returns c = record { model_len_2 = c.settle.ensures.model_len_2; ends_bounded = λ P x. c.settle.ensures.ends_with P _ _ (underway c.requires.accepted_as c.requires.fits_ranges c.args.others.now c.args.stops.now c.requires.at_others c.requires.at_stops c.set_masks.ensures.offsets_of c.set_masks.ensures.lent_masks c.args.model.now c.requires.on_the_way P x) }
