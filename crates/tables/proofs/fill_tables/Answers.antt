-- One rule more is entered at each turn, for every program that the file means; there is one, since it is accepted.
use native.Mathlib.Omega.{arith}
use mathlib.Core.Path.{◌≡◌, refl}
use Prim.Native.Nat.{◌<◌}
use lib.ListN.{length}
use Rattle.reader.proofs.Published.{reads_accepts, counts_of_is, limited, first_rule}
use Rattle.tables.proofs.LaidLaws.{length_stays}
use Rattle.tables.proofs.TableLaws.{here, short_place, placed_more, placed_all, next_place}
use Rattle.tables.proofs.fill_tables.Goals as goal

pub overflow_mul-at : goal.overflow_mul-at
overflow_mul-at c = let v = limited c.requires.accepted_as in omega arith

pub loop-i-init : goal.loop-i-init
loop-i-init c = (
  (refl, refl),
  λ P x. (omega (arith, first_rule x, (counts_of_is c.requires.accepted_as x).variables_are), λ j l. absurd (omega arith)),
)

pub enter-next-requires : goal.enter-next-requires
enter-next-requires c = let f = limited c.requires.accepted_as in
    let a = reads_accepts c.requires.accepted_as in
    let h = here c.requires.accepted_as a.accepts _ _ c.loop-i-test.true (c.loop-i.invariant.1 a.meant a.accepts).0 in
    record { rule_here = h; at_le_max_file = (short_place c.requires.accepted_as h, omega (arith, c.requires.rules_in_bounds.0, c.loop-i.invariant.0.0), omega (arith, c.requires.rules_in_bounds.1, c.loop-i.invariant.0.1)) }

pub loop-i-preserved : goal.loop-i-preserved
loop-i-preserved c = (
  (length_stays c.loop-i.offsets c.loop-i.i _ c.enter-next.ensures.placed c.loop-i.invariant.0.0, length_stays c.loop-i.masks c.loop-i.i _ c.enter-next.ensures.masked c.loop-i.invariant.0.1),
  λ P a. let e = c.loop-i.invariant.1 P a in
      let o : c.loop-i.i < length c.loop-i.offsets = omega (arith, c.requires.rules_in_bounds.0, c.loop-i.invariant.0.0) in
      let m : c.loop-i.i < length c.loop-i.masks = omega (arith, c.requires.rules_in_bounds.1, c.loop-i.invariant.0.1) in
      (next_place c.requires.accepted_as a _ _ _ _ _ _ _ c.loop-i-test.true e.0 o m c.enter-next.ensures e.1, placed_more c.requires.accepted_as a _ _ _ _ _ _ _ c.loop-i-test.true e.0 o m c.enter-next.ensures e.1),
)

pub returns : goal.returns
returns c = let e : c.loop-i.i ≡ c.args.counts.rules = omega arith in
    record {
      accepted = c.requires.accepted_as;
      offsets_reach = omega (arith, c.requires.rules_in_bounds.0, c.loop-i.invariant.0.0);
      masks_reach = omega (arith, c.requires.rules_in_bounds.1, c.loop-i.invariant.0.1);
      placed = λ P x. placed_all c.requires.accepted_as x e (c.loop-i.invariant.1 P x).1;
    }
