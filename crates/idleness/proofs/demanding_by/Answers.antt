-- The direction of the kind, case by case.
use mathlib.Core.Path.{◌≡◌, sym, ap, ◌∙◌}
use mir.Syntax.{w64}
use mir.Val.{to_z, of_z}
use mir.Facts.{to_z-of_z}
use Rattle.program.specs.Idle.{demanding}
use Rattle.program.specs.declared.Direction.{Direction}
use Rattle.idleness.proofs.MostLaws.{is_mixed_lem, rising_by, falling_by, demanding_rising, demanding_falling}
use borrow.Author.Rules.{rules}
use Rattle.idleness.proofs.demanding_by.Goals as goal

pub returns-then-is_mixed : goal.returns-then-is_mixed
returns-then-is_mixed c = let u : to_z w64 (of_z w64 c.demanding.result) ≡ c.demanding.result = search rules in
    u ∙ simp (to_z-of_z c.ranges.low, to_z-of_z c.ranges.high) at c.demanding.ensures
    ∙ ap (λ (d : Direction). demanding c.args.h d c.args.low c.args.high) (sym (is_mixed_lem _ (sym c.is_mixed.ensures ∙ c.if-is_mixed.true)))

pub returns-then-kind-eq1 : goal.returns-then-kind-eq1
returns-then-kind-eq1 c = to_z-of_z c.ranges.high ∙ demanding_rising _ _ _ _ (rising_by c.if-kind-eq1.true)

pub returns-else-kind-eq1 : goal.returns-else-kind-eq1
returns-else-kind-eq1 c = to_z-of_z c.ranges.low ∙ demanding_falling _ _ _ _ (falling_by c.args.kind c.if-kind-eq1.false (sym c.is_mixed.ensures ∙ c.if-is_mixed.false))
