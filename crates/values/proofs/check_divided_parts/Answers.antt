-- The faults of the header, of the divisor and of the body, in order.
use mathlib.Core.Path.{◌≡◌, refl, ap, ap₂, ◌∙◌}
use mathlib.Core.Bool.{not, ◌||◌}
use Prim.Native.Nat.{◌/◌}
use lib.Dec.{eqb}
use lib.ListN.{length}
use mir.Syntax.{w64}
use mir.Val.{to_z, of_z}
use Rattle.format.specs.Limits.{max_number}
use Rattle.format.specs.Numbers.{beyond}
use Rattle.program.specs.Refusals.{wrong_head}
use Rattle.values.proofs.ValueLaws.{own_of, in_order_is, divided_refusal, divisor_room}
use borrow.Author.Rules.{rules}
use Rattle.values.proofs.check_divided_parts.Goals as goal

pub divisor_faults-divisor-requires : goal.divisor_faults-divisor-requires
divisor_faults-divisor-requires c = divisor_room c.args.value.now c.divisor_part-part.ensures

pub returns : goal.returns
returns c = let z : to_z w64 (of_z w64 c.header-rule.result.c) ≡ c.header-rule.result.c = search rules in
    divided_refusal _ c.args.value.now _ c.requires.value_value c.body-body.ensures c.divisor_part-part.ensures c.divisor_faults-divisor.ensures.form_is
    (ap₂ ◌||◌ (c.is_number_beyond.ensures ∙ ap (beyond max_number) (z ∙ c.header-rule.ensures.c_is)) c.divisor_faults-divisor.ensures.range_is) (c.is_wrong_head.ensures ∙ ap (wrong_head _) c.header-rule.ensures.head_is) refl
    (c.first.ensures ∙ in_order_is _ 1 c.body-body.result.now _ (own_of c.divisor_faults-divisor.result.form (c.is_number_beyond.result || c.divisor_faults-divisor.result.range) c.is_wrong_head.result) _
    (not (eqb (length c.divisor_part-part.result.now / 4) 1)) _
    c.body_faults.ensures c.with-all.ensures c.is_wrong_count.ensures)
