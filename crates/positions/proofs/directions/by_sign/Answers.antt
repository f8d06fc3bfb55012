-- The machine's test is that of the number's sign.
use mathlib.Core.Path.{◌≡◌, sym, ap, ◌∙◌}
use mathlib.Core.Bool.{Bool, true, false, cond}
use lib.IntN.{pos}
use lib.Signed.{lt_z}
use mir.Facts.{to_z-of_z}
use Rattle.program.specs.Directions.{away}
use Rattle.program.specs.declared.Direction.TheVariants.{Rising, Falling}
use Rattle.positions.proofs.directions.by_sign.Goals as goal

pub returns-then-number-lt0 : goal.returns-then-number-lt0
returns-then-number-lt0 c = let t : lt_z c.args.number (pos 0) ≡ true = simp (to_z-of_z c.ranges.number) at c.if-number-lt0.true in
    c.away.ensures ∙ ap (λ (b : Bool). away c.args.h (cond b Falling Rising)) (sym t)

pub returns-else-number-lt0 : goal.returns-else-number-lt0
returns-else-number-lt0 c = let t : lt_z c.args.number (pos 0) ≡ false = simp (to_z-of_z c.ranges.number) at c.if-number-lt0.false in
    c.away-else-number-lt0.ensures ∙ ap (λ (b : Bool). away c.args.h (cond b Falling Rising)) (sym t)
