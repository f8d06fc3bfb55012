-- An idle rule draws nothing, another what its positions draw.
use Rattle.validity.proofs.RuleLaws.{idle_draws, acting_draws}
use Rattle.validity.proofs.rules.mark_rule.Goals as goal

pub returns-then-is_idle : goal.returns-then-is_idle
returns-then-is_idle c = record { rows_len_2 = c.requires.rows_len; values_len_2 = c.is_idle.ensures.values_len_2; grown = idle_draws _ _ _ c.is_idle.ensures.value c.if-is_idle.true }

pub returns : goal.returns
returns c = record { rows_len_2 = c.mark_rule.ensures.rows_len_2; values_len_2 = c.is_idle.ensures.values_len_2; grown = acting_draws _ _ c.is_idle.ensures.value c.if-is_idle.false c.mark_rule.ensures.grown }
