-- One rule after the other: each stands where the one before it ends, and the first with a mixed position ends the loop.
use mathlib.Core.Path.{sym, ap, ◌∙◌}
use native.Mathlib.Omega.{arith}
use Rattle.edges.specs.Edges.{any_mixed}
use Rattle.validity.proofs.RuleLaws.{variables_inside, first_rule, next_rule, rule_inside, standing_at, sizes_at, field_rule, none_more, some_mixed, none_mixed_in}
use Rattle.validity.proofs.rules.any_mixed.Goals as goal

pub overflow_mul-at : goal.overflow_mul-at
overflow_mul-at c = omega (arith, variables_inside c.requires)

pub loop-i-init : goal.loop-i-init
loop-i-init c = (first_rule c.requires, λ j l. absurd (omega arith))

pub value_at-value-requires : goal.value_at-value-requires
value_at-value-requires c = rule_inside c.requires _ (omega arith) c.loop-i.invariant.0

pub is_mixed-requires : goal.is_mixed-requires
is_mixed-requires c = record { standing = standing_at c.requires _ (omega arith) c.loop-i.invariant.0 c.value_at-value.ensures; only_sizes = sizes_at c.requires _ (omega arith) c.loop-i.invariant.0 c.value_at-value.ensures }

pub returns-then-is_mixed : goal.returns-then-is_mixed
returns-then-is_mixed c = let e = field_rule _ _ _ c.loop-i.invariant.0 c.value_at-value.ensures in
    some_mixed _ _ _ (omega arith) (sym (c.is_mixed.ensures ∙ ap (any_mixed _) e) ∙ c.if-is_mixed.true)

pub next_at-at-requires : goal.next_at-at-requires
next_at-at-requires c = rule_inside c.requires _ (omega arith) c.loop-i.invariant.0

pub loop-i-preserved : goal.loop-i-preserved
loop-i-preserved c = let e = field_rule _ _ _ c.loop-i.invariant.0 c.value_at-value.ensures in (
  next_rule _ _ _ c.loop-i.invariant.0 c.next_at-at.ensures,
  none_more _ _ c.loop-i.invariant.1 (sym (c.is_mixed.ensures ∙ ap (any_mixed _) e) ∙ c.if-is_mixed.false),
)

pub returns : goal.returns
returns c = none_mixed_in _ _ _ (omega arith) c.loop-i.invariant.1
