-- Of the two ends the one of the larger size.
use mathlib.Core.Path.{◌≡◌, ◌∙◌}
use native.Mathlib.Omega.{arith}
use mir.Syntax.{w64}
use mir.Val.{to_z, of_z}
use mir.Facts.{to_z-of_z}
use borrow.Author.Rules.{rules}
use Rattle.idleness.proofs.MostLaws.{furthest_high, furthest_low}
use Rattle.idleness.proofs.furthest.Goals as goal

pub size-below-requires : goal.size-below-requires
size-below-requires c = rw (to_z-of_z c.ranges.low) (omega (arith, c.requires.0))

pub size-above-requires : goal.size-above-requires
size-above-requires c = rw (to_z-of_z c.ranges.high) (omega (arith, c.requires.1))

pub returns-then-below-above : goal.returns-then-below-above
returns-then-below-above c = let u : to_z w64 (of_z w64 c.size-below.result) ≡ c.size-below.result = search rules in
    let w : to_z w64 (of_z w64 c.size-above.result) ≡ c.size-above.result = search rules in
    to_z-of_z c.ranges.high
    ∙ furthest_high _ _ (u ∙ simp (to_z-of_z c.ranges.low) at c.size-below.ensures) (w ∙ simp (to_z-of_z c.ranges.high) at c.size-above.ensures) c.if-below-above.true

pub returns-else-below-above : goal.returns-else-below-above
returns-else-below-above c = let u : to_z w64 (of_z w64 c.size-below.result) ≡ c.size-below.result = search rules in
    let w : to_z w64 (of_z w64 c.size-above.result) ≡ c.size-above.result = search rules in
    to_z-of_z c.ranges.low
    ∙ furthest_low _ _ (u ∙ simp (to_z-of_z c.ranges.low) at c.size-below.ensures) (w ∙ simp (to_z-of_z c.ranges.high) at c.size-above.ensures) c.if-below-above.false
