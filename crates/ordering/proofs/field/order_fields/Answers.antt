-- One field more is in order at each turn, for every program that the file means; there is one, since it is accepted.
use native.Mathlib.Omega.{arith}
use mathlib.Core.Path.{refl, ◌∙◌}
use Prim.Native.Nat.{◌-◌}
use lib.ListN.{length-set}
use Rattle.reader.proofs.Published.{reads_accepts, counts_of_is, limited}
use Rattle.ordering.proofs.FileLaws.{none_ordered, next_here, place_small, one_ordered, all_ordered}
use Rattle.ordering.proofs.field.order_fields.Goals as goal

pub overflow_mul-at : goal.overflow_mul-at
overflow_mul-at c = let v = limited c.requires.accepted_as in omega arith

pub loop-i-init : goal.loop-i-init
loop-i-init c = (omega arith, refl, refl, λ P x. none_ordered x _ _ c.requires.text_value.0 (omega (arith, (counts_of_is c.requires.accepted_as x).variables_are)))

pub narrow-requires : goal.narrow-requires
narrow-requires c = let a = reads_accepts c.requires.accepted_as in
    place_small a.accepts (c.loop-i.invariant.3 a.meant a.accepts) (omega (arith, a.rules_are, a.constraints_are))

pub order_field-at-requires : goal.order_field-at-requires
order_field-at-requires c = let a = reads_accepts c.requires.accepted_as in
    let o = c.loop-i.invariant.3 a.meant a.accepts in
    record { field_here = next_here a.accepts o (omega (arith, a.rules_are, a.constraints_are)); text_len = (o.length_is, o.rest) }

pub loop-i-preserved : goal.loop-i-preserved
loop-i-preserved c = (
  omega arith,
  c.order_field-at.ensures.length_is ∙ c.loop-i.invariant.1,
  simp length-set c.loop-i.invariant.2,
  λ P x. let z = counts_of_is c.requires.accepted_as x in
      one_ordered x (c.loop-i.invariant.3 P x) (omega (arith, z.rules_are, z.constraints_are)) _ (omega (arith, c.requires.text_value.1)) c.narrow.ensures c.order_field-at.ensures,
)

pub returns : goal.returns
returns c = record { places_len_unchanged = c.loop-i.invariant.2; ordered_file = λ P x. let z = counts_of_is c.requires.accepted_as x in all_ordered x (c.loop-i.invariant.3 P x) (omega arith) (omega (arith, z.rules_are, z.constraints_are)) }
