-- Each way of the two tests is a case of the definition.
use mir.Syntax.{w64}
use mir.Val.{to_z, of_z}
use mathlib.Core.Path.{◌≡◌, sym, ◌∙◌}
use Rattle.faults.proofs.TermLaws.{wrong_op_is, wrong_zero, wrong_none}
use borrow.Author.Rules.{rules}
use Rattle.faults.proofs.by_form.is_wrong_term.Goals as goal

pub returns-then-is_wrong_op : goal.returns-then-is_wrong_op
returns-then-is_wrong_op c = wrong_op_is _ _ _ (sym c.is_wrong_op.ensures ∙ c.if-is_wrong_op.true)

pub returns-then-is_zero_position : goal.returns-then-is_zero_position
returns-then-is_zero_position c = let z : to_z w64 (of_z w64 c.args.t.number) ≡ c.args.t.number = search rules in
    wrong_zero _ _ _ (sym c.is_wrong_op.ensures ∙ c.if-is_wrong_op.false)
    (sym c.is_zero_position.ensures ∙ c.if-is_zero_position.true) _ (simp z at c.is_zero.ensures)

pub returns : goal.returns
returns c = wrong_none _ _ _ (sym c.is_wrong_op.ensures ∙ c.if-is_wrong_op.false) (sym c.is_zero_position.ensures ∙ c.if-is_zero_position.false)
