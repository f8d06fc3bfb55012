-- Neither the header nor the divisor nor the body has a fault.
use Prim.Native.Nat.{◌/◌}
use mathlib.Core.Bool.{not, ◌||◌}
use native.Mathlib.Omega.{arith}
use lib.ListN.{length}
use borrow.Author.Tests.{eq-eqb}
use Rattle.program.proofs.Conditions.{neither}
use mathlib.Core.Path.{◌≡◌, sym, ap, ap₂, ◌∙◌}
use mir.Syntax.{w64}
use mir.Val.{to_z, of_z}
use Rattle.format.specs.Limits.{max_number}
use Rattle.format.specs.Numbers.{beyond}
use Rattle.program.specs.Refusals.{wrong_head}
use Rattle.faultless.proofs.TermLaws.{says_no}
use Rattle.values.proofs.ValueLaws.{divided_refusal, all_sound}
use borrow.Author.Rules.{rules}
use Rattle.values.proofs.sound.is_sound_divided.Goals as goal

pub returns-then-part-ne1 : goal.returns-then-part-ne1
returns-then-part-ne1 c = says_no

pub returns-then-divisor : goal.returns-then-divisor
returns-then-divisor c = says_no

pub returns-then-is_number_beyond : goal.returns-then-is_number_beyond
returns-then-is_number_beyond c = says_no

pub returns-then-is_wrong_head : goal.returns-then-is_wrong_head
returns-then-is_wrong_head c = says_no

pub returns : goal.returns
returns c = let z : to_z w64 (of_z w64 c.header-rule.result.c) ≡ c.header-rule.result.c = search rules in
    let m = neither c.divisor_faults-divisor.result.form c.divisor_faults-divisor.result.range c.if-divisor.false in
    let one : length c.divisor_part-part.result.now / 4 ≡ 1 = omega arith in
    λ e.
    divided_refusal _ c.args.value.now 0 c.requires.value_value c.body-body.ensures c.divisor_part-part.ensures (sym m.0 ∙ c.divisor_faults-divisor.ensures.form_is)
    (ap₂ ◌||◌ (sym c.if-is_number_beyond.false ∙ c.is_number_beyond.ensures ∙ ap (beyond max_number) (z ∙ c.header-rule.ensures.c_is)) (sym m.1 ∙ c.divisor_faults-divisor.ensures.range_is))
    (sym c.if-is_wrong_head.false ∙ c.is_wrong_head.ensures ∙ ap (wrong_head _) c.header-rule.ensures.head_is) (sym (ap not (eq-eqb (length c.divisor_part-part.result.now / 4) 1 one)))
    (all_sound (c.is_faultless.ensures e))
