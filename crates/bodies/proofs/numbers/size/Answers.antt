-- A small number's negative fits, so both branches are its absolute value.
use mathlib.Core.Path.{◌≡◌, ◌∙◌}
use mathlib.Core.Bool.{true, false}
use lib.IntN.{pos}
use lib.Signed.{lt_z}
use mir.Facts.{to_z-of_z}
use native.Mathlib.Omega.{arith}
use Rattle.format.proofs.Ints.{sfits_abs, back}
use Rattle.bodies.proofs.Sizes.{size_negative, size_positive}
use Rattle.bodies.proofs.numbers.size.Goals as goal

pub overflow_sub-result : goal.overflow_sub-result
overflow_sub-result c = let t : lt_z c.args.a (pos 0) ≡ true = simp (to_z-of_z c.ranges.a) at c.if-a-lt0.true in
    rw (to_z-of_z c.ranges.a, size_negative c.args.a t) (sfits_abs _ _ (omega arith) c.requires)

pub returns-then-a-lt0 : goal.returns-then-a-lt0
returns-then-a-lt0 c = let t : lt_z c.args.a (pos 0) ≡ true = simp (to_z-of_z c.ranges.a) at c.if-a-lt0.true in
    rw (to_z-of_z c.ranges.a, size_negative c.args.a t) (back _ _ (omega arith) c.requires)

pub returns-else-a-lt0 : goal.returns-else-a-lt0
returns-else-a-lt0 c = let t : lt_z c.args.a (pos 0) ≡ false = simp (to_z-of_z c.ranges.a) at c.if-a-lt0.false in
    to_z-of_z c.ranges.a ∙ size_positive c.args.a t
