-- A sum over a divisor always has an estimate; another rule has one where every literal holds at the present values.
use mathlib.Core.Path.{◌≡◌, sym, ◌∙◌}
use native.Mathlib.Omega.{arith}
use mir.Syntax.{w64}
use mir.Val.{to_z, of_z}
use Rattle.evaluation.proofs.Gives.{handed_plain, handed_evaluable, divided_evaluable}
use Rattle.steady.proofs.Machine.{stride_own}
use Rattle.steady.proofs.Estimates.{estimate_nothing, estimate_value, estimate_divided}
use borrow.Author.Rules.{rules}
use Rattle.steady.proofs.estimate.Goals as goal

pub divisor-divisor-requires : goal.divisor-divisor-requires
divisor-divisor-requires c = (c.requires.rule_header_in_bounds, sym c.header-rule.ensures.form_is ∙ c.if-rule-eq8.true)

pub summed-requires : goal.summed-requires
summed-requires c = let z : to_z w64 (of_z w64 c.header-rule.result.c) ≡ c.header-rule.result.c = search rules in
    let d : to_z w64 (of_z w64 c.divisor-divisor.result) ≡ c.divisor-divisor.result = search rules in
    let w : to_z w64 (of_z w64 c.stride_of-own.result) ≡ c.stride_of-own.result = search rules in record { evaluable_as = rw (z, d) (divided_evaluable c.args.value.now c.header-rule.ensures c.body-body.ensures c.if-rule-eq8.true c.divisor-divisor.ensures c.requires.evaluable); pos_bound = stride_own _ (w ∙ c.stride_of-own.ensures); small = c.requires.small }

pub returns-then-rule-eq8 : goal.returns-then-rule-eq8
returns-then-rule-eq8 c = let z : to_z w64 (of_z w64 c.header-rule.result.c) ≡ c.header-rule.result.c = search rules in
    let d : to_z w64 (of_z w64 c.divisor-divisor.result) ≡ c.divisor-divisor.result = search rules in
    let w : to_z w64 (of_z w64 c.stride_of-own.result) ≡ c.stride_of-own.result = search rules in
    let r : to_z w64 (of_z w64 c.summed.result) ≡ c.summed.result = search rules in
    estimate_divided c.args.value.now c.header-rule.ensures c.body-body.ensures c.args.x _ c.args.readings.kept c.args.readings.first.now c.args.aims.now c.args.readings.second.now c.args.strides.now c.if-rule-eq8.true
    c.divisor-divisor.ensures c.requires.evaluable (r ∙ (rw (w ∙ c.stride_of-own.ensures, z, d) at c.summed.ensures))

pub is_met-requires : goal.is_met-requires
is_met-requires c = record { body_len_bound = omega (arith, c.requires.evaluable.few, c.body-body.ensures.many); plain = handed_plain c.args.value.now c.header-rule.ensures c.body-body.ensures c.requires.evaluable }

pub returns-then-not-is_met : goal.returns-then-not-is_met
returns-then-not-is_met c = estimate_nothing c.args.value.now c.header-rule.ensures c.body-body.ensures
    c.args.x _ c.args.readings.kept c.args.readings.first.now c.args.aims.now c.args.readings.second.now c.args.strides.now (sym c.if-not-is_met.true ∙ c.is_met.ensures)

pub estimated-requires : goal.estimated-requires
estimated-requires c = let w : to_z w64 (of_z w64 c.stride_of-own.result) ≡ c.stride_of-own.result = search rules in
    record { evaluable_as = handed_evaluable c.args.value.now c.header-rule.ensures c.body-body.ensures c.if-rule-eq8.false c.requires.evaluable; pos_bound = stride_own _ (w ∙ c.stride_of-own.ensures); small = c.requires.small }

pub returns : goal.returns
returns c = let z : to_z w64 (of_z w64 c.estimated.result) ≡ c.estimated.result = search rules in
    let w : to_z w64 (of_z w64 c.stride_of-own.result) ≡ c.stride_of-own.result = search rules in
    estimate_value c.args.value.now c.header-rule.ensures c.body-body.ensures c.args.x _ c.args.readings.kept c.args.readings.first.now c.args.aims.now c.args.readings.second.now c.args.strides.now
    c.if-rule-eq8.false (sym c.if-not-is_met.false ∙ c.is_met.ensures)
    (z ∙ (rw (w ∙ c.stride_of-own.ensures) at c.estimated.ensures))
