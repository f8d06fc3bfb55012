-- One rule after the other: each stands where the one before it ends.
use mathlib.Core.Path.{ap}
use native.Mathlib.Omega.{arith}
use Rattle.edges.proofs.PositionLaws.{grown_none, grown_more, grown_as}
use Rattle.validity.specs.Marks.{draws_by}
use Rattle.validity.proofs.RuleLaws.{variables_inside, first_rule, next_rule, rule_inside, ready_at, field_rule, edges_all}
use Rattle.validity.proofs.rules.mark_edges.Goals as goal

pub overflow_mul-at : goal.overflow_mul-at
overflow_mul-at c = omega (arith, variables_inside c.requires.counted)

pub loop-i-init : goal.loop-i-init
loop-i-init c = (first_rule c.requires.counted, c.requires.rows_len, c.requires.values_len, grown_none _ _)

pub value_at-value-requires : goal.value_at-value-requires
value_at-value-requires c = rule_inside c.requires.counted _ (omega arith) c.loop-i.invariant.0

pub mark_rule-requires : goal.mark_rule-requires
mark_rule-requires c = record { ready = ready_at c.requires.counted _ (omega arith) c.loop-i.invariant.0 c.value_at-value.ensures; rows_len = c.loop-i.invariant.1; values_len = c.loop-i.invariant.2 }

pub next_at-at-requires : goal.next_at-at-requires
next_at-at-requires c = rule_inside c.requires.counted _ (omega arith) c.loop-i.invariant.0

pub loop-i-preserved : goal.loop-i-preserved
loop-i-preserved c = let e = field_rule _ _ _ c.loop-i.invariant.0 c.value_at-value.ensures in
    (next_rule _ _ _ c.loop-i.invariant.0 c.next_at-at.ensures, c.mark_rule.ensures.rows_len_2, c.mark_rule.ensures.values_len_2, grown_more _ _ c.loop-i.invariant.3 (grown_as (ap (draws_by _) e) c.mark_rule.ensures.grown))

pub returns : goal.returns
returns c = record { rows_len_2 = c.loop-i.invariant.1; values_len_2 = c.loop-i.invariant.2; grown = edges_all _ _ (omega arith) c.loop-i.invariant.3 }
