-- The length first, then the value's parts where a quick look does not pass it.
use mathlib.Core.Path.{sym, ◌∙◌}
use native.Mathlib.Omega.{arith}
use Rattle.values.proofs.ValueLaws.{constraint_length, constraint_rest, terms_header}
use Rattle.values.proofs.check_constraint.Goals as goal

pub returns-then-is_not_terms : goal.returns-then-is_not_terms
returns-then-is_not_terms c = constraint_length _ _ 0 (sym c.is_not_terms.ensures ∙ c.if-is_not_terms.true)

pub is_sound_constraint-requires : goal.is_sound_constraint-requires
is_sound_constraint-requires c = let h = terms_header 3 _ _ (sym c.is_not_terms.ensures ∙ c.if-is_not_terms.false) in omega arith

pub returns-then-is_sound_constraint : goal.returns-then-is_sound_constraint
returns-then-is_sound_constraint c = constraint_rest _ _ _ (sym c.is_not_terms.ensures ∙ c.if-is_not_terms.false) (c.is_sound_constraint.ensures c.if-is_sound_constraint.true)

pub check_constraint_parts-requires : goal.check_constraint_parts-requires
check_constraint_parts-requires c = let h = terms_header 3 _ _ (sym c.is_not_terms.ensures ∙ c.if-is_not_terms.false) in omega arith

pub returns : goal.returns
returns c = constraint_rest _ _ _ (sym c.is_not_terms.ensures ∙ c.if-is_not_terms.false) c.check_constraint_parts.ensures
