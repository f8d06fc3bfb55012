-- The length first, with room for the divisor, then the value's parts where a quick look does not pass it.
use mathlib.Core.Path.{sym, ◌∙◌}
use Rattle.program.proofs.Forms.{divisor_own}
use Rattle.values.proofs.ValueLaws.{rule_length, rule_rest}
use Rattle.values.proofs.check_divided.Goals as goal

pub returns-then-is_not_terms : goal.returns-then-is_not_terms
returns-then-is_not_terms c = rule_length _ c.args.value.now 0 (divisor_own _ c.requires.value_value) (sym c.is_not_terms.ensures ∙ c.if-is_not_terms.true)

pub returns-then-is_sound_divided : goal.returns-then-is_sound_divided
returns-then-is_sound_divided c = rule_rest _ c.args.value.now _ (divisor_own _ c.requires.value_value) (sym c.is_not_terms.ensures ∙ c.if-is_not_terms.false)
    (c.is_sound_divided.ensures c.if-is_sound_divided.true)

pub returns : goal.returns
returns c = rule_rest _ c.args.value.now _ (divisor_own _ c.requires.value_value) (sym c.is_not_terms.ensures ∙ c.if-is_not_terms.false) c.check_divided_parts.ensures
