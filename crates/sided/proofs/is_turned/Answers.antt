-- The machine's test is the order of ℤ.
use mathlib.Core.Path.{◌≡◌}
use mathlib.Core.Bool.{true, false}
use lib.IntN.{pos}
use lib.Signed.{lt_z}
use mir.Facts.{to_z-of_z}
use Rattle.sided.proofs.is_turned.Goals as goal

pub returns-then-number-lt0 : goal.returns-then-number-lt0
returns-then-number-lt0 c = let t : lt_z c.args.number (pos 0) ≡ true = simp (to_z-of_z c.ranges.number) at c.if-number-lt0.true in
    rw t

pub returns-else-number-lt0 : goal.returns-else-number-lt0
returns-else-number-lt0 c = let t : lt_z c.args.number (pos 0) ≡ false = simp (to_z-of_z c.ranges.number) at c.if-number-lt0.false in
    rw t
