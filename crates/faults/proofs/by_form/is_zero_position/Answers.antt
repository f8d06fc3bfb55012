-- By whether a literal stands there, then by the form.
use mathlib.Core.Path.{sym, ◌∙◌}
use Rattle.faults.proofs.TermLaws.{zero_literal, zero_plain}
use Rattle.faults.proofs.by_form.is_zero_position.Goals as goal

pub returns-then-is_literal_position : goal.returns-then-is_literal_position
returns-then-is_literal_position c = zero_literal _ _ (sym c.is_literal_position.ensures ∙ c.if-is_literal_position.true)

pub returns : goal.returns
returns c = zero_plain _ _ (sym c.is_literal_position.ensures ∙ c.if-is_literal_position.false)
