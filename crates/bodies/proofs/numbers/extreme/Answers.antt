-- The machine's tests are the order of ℤ.
use mathlib.Core.Path.{◌∙◌}
use mir.Facts.{to_z-of_z}
use Rattle.bodies.proofs.Loops.{extreme_is}
use Rattle.bodies.proofs.numbers.extreme.Goals as goal

pub returns-then-above-below : goal.returns-then-above-below
returns-then-above-below c = to_z-of_z c.ranges.b ∙ extreme_is c.args.most c.args.a c.args.b (simp (to_z-of_z c.ranges.a, to_z-of_z c.ranges.b) at c.if-above-below.true)

pub returns-else-above-below : goal.returns-else-above-below
returns-else-above-below c = to_z-of_z c.ranges.a ∙ extreme_is c.args.most c.args.a c.args.b (simp (to_z-of_z c.ranges.a, to_z-of_z c.ranges.b) at c.if-above-below.false)
