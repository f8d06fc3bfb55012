-- One rule after the other: the first that offends ends the loop.
use mathlib.Core.Path.{sym, ap, ◌∙◌}
use native.Mathlib.Omega.{arith}
use Rattle.validity.specs.Marks.{offends_by}
use Rattle.validity.proofs.RuleLaws.{variables_inside, first_rule, next_rule, rule_inside, ready_at, sizes_at, field_rule, none_more}
use Rattle.validity.proofs.rules.first_offending.Goals as goal

pub overflow_mul-at : goal.overflow_mul-at
overflow_mul-at c = omega (arith, variables_inside c.requires.counted)

pub loop-rule-init : goal.loop-rule-init
loop-rule-init c = (first_rule c.requires.counted, c.requires.values_len, λ j l. absurd (omega arith))

pub value_at-value-requires : goal.value_at-value-requires
value_at-value-requires c = rule_inside c.requires.counted _ (omega arith) c.loop-rule.invariant.0

pub offends-requires : goal.offends-requires
offends-requires c = record { lent = c.requires.lent; ready = ready_at c.requires.counted _ (omega arith) c.loop-rule.invariant.0 c.value_at-value.ensures; only_sizes = sizes_at c.requires.counted _ (omega arith) c.loop-rule.invariant.0 c.value_at-value.ensures; values_len = c.loop-rule.invariant.1 }

pub returns-then-offends : goal.returns-then-offends
returns-then-offends c = let e = field_rule _ _ _ c.loop-rule.invariant.0 c.value_at-value.ensures in
    record {
      rule = c.loop-rule.rule;
      among = omega arith;
      offends = sym (c.offends.ensures.value ∙ ap (offends_by _ _) e) ∙ c.if-offends.true;
      first = c.loop-rule.invariant.2;
      placed = c.loop-rule.invariant.0;
    }

pub next_at-at-requires : goal.next_at-at-requires
next_at-at-requires c = rule_inside c.requires.counted _ (omega arith) c.loop-rule.invariant.0

pub loop-rule-preserved : goal.loop-rule-preserved
loop-rule-preserved c = let e = field_rule _ _ _ c.loop-rule.invariant.0 c.value_at-value.ensures in (
  next_rule _ _ _ c.loop-rule.invariant.0 c.next_at-at.ensures,
  c.offends.ensures.values_len_2,
  none_more _ _ c.loop-rule.invariant.2 (sym (c.offends.ensures.value ∙ ap (offends_by _ _) e) ∙ c.if-offends.false),
)

pub returns : goal.returns
returns c = λ i l. c.loop-rule.invariant.2 i (omega arith)
