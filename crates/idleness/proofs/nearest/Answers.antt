-- Each way of the two tests is a case of the definition.
use mathlib.Core.Path.{◌≡◌, ◌∙◌}
use mathlib.Core.Bool.{true, false}
use lib.IntN.{pos}
use lib.Signed.{lt_z}
use mir.Facts.{to_z-of_z}
use Rattle.idleness.proofs.MostLaws.{nearest_low, nearest_high, nearest_zero}
use Rattle.idleness.proofs.nearest.Goals as goal

pub returns-then-low-gt0 : goal.returns-then-low-gt0
returns-then-low-gt0 c = let l : lt_z (pos 0) c.args.low ≡ true = simp (to_z-of_z c.ranges.low) at c.if-low-gt0.true in
    to_z-of_z c.ranges.low ∙ nearest_low _ _ l

pub returns-then-high-lt0 : goal.returns-then-high-lt0
returns-then-high-lt0 c = let l : lt_z (pos 0) c.args.low ≡ false = simp (to_z-of_z c.ranges.low) at c.if-low-gt0.false in
    let h : lt_z c.args.high (pos 0) ≡ true = simp (to_z-of_z c.ranges.high) at c.if-high-lt0.true in
    to_z-of_z c.ranges.high ∙ nearest_high _ _ l h

pub returns-else-high-lt0 : goal.returns-else-high-lt0
returns-else-high-lt0 c = let l : lt_z (pos 0) c.args.low ≡ false = simp (to_z-of_z c.ranges.low) at c.if-low-gt0.false in
    let h : lt_z c.args.high (pos 0) ≡ false = simp (to_z-of_z c.ranges.high) at c.if-high-lt0.false in
    nearest_zero _ _ l h
