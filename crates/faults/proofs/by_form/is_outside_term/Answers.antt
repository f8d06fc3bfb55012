-- Each way of the tests is a case of the definition.
use mir.Syntax.{w64}
use mir.Val.{to_z, of_z}
use native.Mathlib.Omega.{arith}
use mathlib.Core.Path.{◌≡◌, sym, ◌∙◌}
use Rattle.faults.proofs.TermLaws.{outside_literal, outside_plain, outside_zero, outside_sum}
use borrow.Author.Rules.{rules}
use Rattle.faults.proofs.by_form.is_outside_term.Goals as goal

pub returns-then-is_literal_position : goal.returns-then-is_literal_position
returns-then-is_literal_position c = let z : to_z w64 (of_z w64 c.args.t.number) ≡ c.args.t.number = search rules in
    (simp z at c.is_number_beyond.ensures) ∙ outside_literal _ _ _ (sym c.is_literal_position.ensures ∙ c.if-is_literal_position.true)

pub returns-then-form-ne1 : goal.returns-then-form-ne1
returns-then-form-ne1 c = outside_plain _ _ _ (sym c.is_literal_position.ensures ∙ c.if-is_literal_position.false) (omega arith)

pub returns-then-is_zero : goal.returns-then-is_zero
returns-then-is_zero c = let z : to_z w64 (of_z w64 c.args.t.number) ≡ c.args.t.number = search rules in
    outside_zero _ _ _ (sym c.is_literal_position.ensures ∙ c.if-is_literal_position.false) (omega arith)
    (sym (simp z at c.is_zero.ensures) ∙ c.if-is_zero.true)

pub returns : goal.returns
returns c = let z : to_z w64 (of_z w64 c.args.t.number) ≡ c.args.t.number = search rules in
    (simp z at c.is_coefficient_beyond.ensures)
    ∙ outside_sum _ _ _ (sym c.is_literal_position.ensures ∙ c.if-is_literal_position.false) (omega arith)
    (sym (simp z at c.is_zero.ensures) ∙ c.if-is_zero.false)
