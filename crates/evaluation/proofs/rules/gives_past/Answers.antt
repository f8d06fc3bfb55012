-- What is not past z counts for nothing, whether or not the literals hold.
use Rattle.std.specs.Prelude.{Some}
use mathlib.Core.Path.{◌≡◌, sym, ap, ◌∙◌}
use mathlib.Core.Bool.{not}
use mir.Syntax.{w64}
use mir.Val.{to_z, of_z}
use mir.Facts.{to_z-of_z}
use borrow.Author.Tests.{not-true, not-false}
use Rattle.program.specs.Variables.{not_past}
use Rattle.evaluation.proofs.Gives.{past_nothing, past_before, past_value}
use borrow.Author.Rules.{rules}
use Rattle.evaluation.proofs.rules.gives_past.Goals as goal

pub returns-then-not-is_before : goal.returns-then-not-is_before
returns-then-not-is_before c = let z : to_z w64 (of_z w64 c.amount_of-a.result) ≡ c.amount_of-a.result = search rules in
    let e : c.is_before.result ≡ not (not_past c.args.x c.amount_of-a.result c.args.z) = rw (z, to_z-of_z c.ranges.z) at c.is_before.ensures in
    past_before _ _ c.args.x c.args.z c.amount_of-a.ensures (not-false _ (sym e ∙ not-true _ c.if-not-is_before.true-raw))

pub returns-then-not-is_rule_met : goal.returns-then-not-is_rule_met
returns-then-not-is_rule_met c = past_nothing _ _ _ _ (sym (not-true _ c.if-not-is_rule_met.true-raw) ∙ c.is_rule_met.ensures)

pub returns : goal.returns
returns c = let z : to_z w64 (of_z w64 c.amount_of-a.result) ≡ c.amount_of-a.result = search rules in
    let e : c.is_before.result ≡ not (not_past c.args.x c.amount_of-a.result c.args.z) = rw (z, to_z-of_z c.ranges.z) at c.is_before.ensures in
    ap Some z ∙ past_value _ _ c.args.x c.args.z (sym (not-false _ c.if-not-is_rule_met.false-raw) ∙ c.is_rule_met.ensures) c.amount_of-a.ensures
    (not-true _ (sym e ∙ not-false _ c.if-not-is_before.false-raw))
