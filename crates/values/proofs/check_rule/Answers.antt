-- The length first, then the value's parts where a quick look does not pass it; form 8 by itself.
use mathlib.Core.Path.{sym, ◌∙◌}
use native.Mathlib.Omega.{arith}
use Rattle.program.proofs.Forms.{divisor_none}
use Rattle.values.proofs.ValueLaws.{rule_short, rule_length, rule_rest}
use Rattle.values.proofs.check_rule.Goals as goal

pub returns-then-value-lt4 : goal.returns-then-value-lt4
returns-then-value-lt4 c = rule_short _ c.args.value.now 0 (omega arith)

pub returns-then-is_not_terms : goal.returns-then-is_not_terms
returns-then-is_not_terms c = rule_length _ c.args.value.now 0 (divisor_none _ c.if-value-eq8.false)
    (sym c.is_not_terms.ensures ∙ c.if-is_not_terms.true)

pub returns-then-is_sound_rule : goal.returns-then-is_sound_rule
returns-then-is_sound_rule c = rule_rest _ c.args.value.now _ (divisor_none _ c.if-value-eq8.false)
    (sym c.is_not_terms.ensures ∙ c.if-is_not_terms.false) (c.is_sound_rule.ensures c.if-is_sound_rule.true)

pub returns : goal.returns
returns c = rule_rest _ c.args.value.now _ (divisor_none _ c.if-value-eq8.false)
    (sym c.is_not_terms.ensures ∙ c.if-is_not_terms.false) c.check_rule_parts.ensures
