-- The direction's own case; a mixed one's goes by the head's kind.
use mathlib.Core.Path.{◌≡◌, sym, ◌∙◌}
use mir.Syntax.{w64}
use mir.Val.{to_z, of_z}
use mir.Facts.{to_z-of_z}
use Rattle.program.proofs.Variables.{swaps_not, swaps_so}
use Rattle.idleness.proofs.MostLaws.{is_mixed_lem, is_rising_lem, is_falling, demanding_rising, demanding_falling, demanding_mixed}
use borrow.Author.Rules.{rules}
use Rattle.idleness.proofs.demanding.Goals as goal

pub returns-then-is_from_above : goal.returns-then-is_from_above
returns-then-is_from_above c = let u : to_z w64 (of_z w64 c.nearest.result) ≡ c.nearest.result = search rules in
    u ∙ simp (to_z-of_z c.ranges.low, to_z-of_z c.ranges.high) at c.nearest.ensures
    ∙ swaps_so c.args.h _ _ (sym c.is_from_above.ensures ∙ c.if-is_from_above.true)
    ∙ demanding_mixed _ _ _ _ (is_mixed_lem _ (sym c.is_mixed.ensures ∙ c.if-is_mixed.true))

pub returns-then-is_mixed : goal.returns-then-is_mixed
returns-then-is_mixed c = let u : to_z w64 (of_z w64 c.furthest.result) ≡ c.furthest.result = search rules in
    u ∙ simp (to_z-of_z c.ranges.low, to_z-of_z c.ranges.high) at c.furthest.ensures
    ∙ swaps_not c.args.h _ _ (sym c.is_from_above.ensures ∙ c.if-is_from_above.false)
    ∙ demanding_mixed _ _ _ _ (is_mixed_lem _ (sym c.is_mixed.ensures ∙ c.if-is_mixed.true))

pub returns-then-is_rising : goal.returns-then-is_rising
returns-then-is_rising c = to_z-of_z c.ranges.high ∙ demanding_rising _ _ _ _ (is_rising_lem _ (sym c.is_rising.ensures ∙ c.if-is_rising.true))

pub returns-else-is_rising : goal.returns-else-is_rising
returns-else-is_rising c = let m = sym c.is_mixed.ensures ∙ c.if-is_mixed.false in
    to_z-of_z c.ranges.low ∙ demanding_falling _ _ _ _ (is_falling _ m (sym c.is_rising.ensures ∙ c.if-is_rising.false))
