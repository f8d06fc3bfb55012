-- One rule more is entered at each turn, for every program that the file means; there is one, since it is accepted.
use native.Mathlib.Omega.{arith}
use mathlib.Core.Path.{refl}
use Rattle.reader.proofs.Published.{reads_accepts, limited}
use Rattle.tables.proofs.LaidLaws.{length_stays}
use Rattle.tables.proofs.TableLaws.{here, short_place}
use Rattle.ends.proofs.MaskLaws.{entered_none, entered_more, places_whole, masks_whole}
use Rattle.ends.proofs.masks.set_masks.Goals as goal

pub overflow_mul-at : goal.overflow_mul-at
overflow_mul-at c = let v = limited c.requires.accepted_as in omega arith

pub loop-i-init : goal.loop-i-init
loop-i-init c = (omega arith, (refl, refl), entered_none c.requires.accepted_as _ _ _ _)

pub enter-at-requires : goal.enter-at-requires
enter-at-requires c = let a = reads_accepts c.requires.accepted_as in
    let h = here c.requires.accepted_as a.accepts _ _ c.loop-i-test.true (c.loop-i.invariant.2 a.meant a.accepts).next in
    record { rule_here = h; at_le_max_file = (short_place c.requires.accepted_as h, omega (arith, c.requires.rules_in_bounds.0, c.loop-i.invariant.1.0), omega (arith, c.requires.rules_in_bounds.1, c.loop-i.invariant.1.1)) }

pub loop-i-preserved : goal.loop-i-preserved
loop-i-preserved c = (
  omega arith,
  (length_stays c.loop-i.offsets c.loop-i.i _ c.enter-at.ensures.placed c.loop-i.invariant.1.0, length_stays c.loop-i.masks c.loop-i.i _ c.enter-at.ensures.masked c.loop-i.invariant.1.1),
  λ P a. entered_more c.requires.accepted_as _ _ _ _ _ _ _ _ _ c.loop-i-test.true (omega (arith, c.requires.rules_in_bounds.0, c.loop-i.invariant.1.0)) (omega (arith, c.requires.rules_in_bounds.1, c.loop-i.invariant.1.1)) c.enter-at.ensures P a (c.loop-i.invariant.2 P a),
)

pub returns : goal.returns
returns c = record { offsets_len_unchanged = c.loop-i.invariant.1.0; masks_len_unchanged = c.loop-i.invariant.1.1; offsets_of = places_whole c.requires.accepted_as _ _ c.loop-i-test.false c.loop-i.invariant.2; lent_masks = masks_whole c.requires.accepted_as _ _ c.loop-i-test.false c.loop-i.invariant.2 }
