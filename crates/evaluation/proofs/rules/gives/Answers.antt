-- The amount is given where every literal holds, and nothing else.
use mathlib.Core.Path.{◌≡◌, sym, ◌∙◌}
use mir.Syntax.{w64}
use mir.Val.{to_z, of_z}
use borrow.Author.Tests.{not-true, not-false}
use Rattle.program.proofs.Gives.{given_is}
use Rattle.evaluation.proofs.Gives.{given_nothing}
use borrow.Author.Rules.{rules}
use Rattle.evaluation.proofs.rules.gives.Goals as goal

pub returns-then-not-is_rule_met : goal.returns-then-not-is_rule_met
returns-then-not-is_rule_met c = given_nothing _ _ (sym (not-true _ c.if-not-is_rule_met.true-raw) ∙ c.is_rule_met.ensures)

pub returns : goal.returns
returns c = let z : to_z w64 (of_z w64 c.amount_of.result) ≡ c.amount_of.result = search rules in
    given_is _ _ (sym (not-false _ c.if-not-is_rule_met.false-raw) ∙ c.is_rule_met.ensures) (z ∙ c.amount_of.ensures)
