-- The tests stand in the order of the refusals 3 to 5, and the value is judged last.
use native.Mathlib.Omega.{arith}
use mathlib.Core.Path.{sym, ap, ◌∙◌}
use lib.ListN.{length}
use mathlib.Core.List.{List}
use Rattle.program.proofs.Places.{variables_length}
use Rattle.fields.proofs.FieldLaws.{whole_unknown, whole_below, whole_many, whole_value}
use Rattle.program.specs.declared.Variable.{Variable}
use Rattle.fields.proofs.checks.check_field.Goals as goal

pub returns-then-is_unknown_tag : goal.returns-then-is_unknown_tag
returns-then-is_unknown_tag c = λ P d. whole_unknown P _ _ _ (sym c.is_unknown_tag.ensures ∙ c.if-is_unknown_tag.true)

pub returns-then-tag-before : goal.returns-then-tag-before
returns-then-tag-before c = λ P d. whole_below P _ _ _ (sym c.is_unknown_tag.ensures ∙ c.if-is_unknown_tag.false) (omega arith)

pub returns-then-is_one_too_many : goal.returns-then-is_one_too_many
returns-then-is_one_too_many c = λ P d. whole_many P _ _ _ (sym c.is_unknown_tag.ensures ∙ c.if-is_unknown_tag.false) (omega arith)
    (sym (c.is_one_too_many.ensures P (ap (λ (l : List Variable). length l) d.variables_are ∙ variables_length _ _) d.rules_are
    d.constraints_are) ∙ c.if-is_one_too_many.true)

pub check_value-requires : goal.check_value-requires
check_value-requires c = (omega arith, sym c.is_unknown_tag.ensures ∙ c.if-is_unknown_tag.false)

pub returns : goal.returns
returns c = λ P d. whole_value P _ _ _ (sym c.is_unknown_tag.ensures ∙ c.if-is_unknown_tag.false)
    (omega arith) (sym (c.is_one_too_many.ensures P (ap (λ (l : List Variable). length l) d.variables_are ∙ variables_length _ _)
    d.rules_are d.constraints_are) ∙ c.if-is_one_too_many.false) _ _ d.variables_are c.check_value.ensures
