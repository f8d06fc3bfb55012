-- Below, above or within: each branch by the order of ℤ.
use mir.Facts.{to_z-of_z}
use Rattle.format.proofs.Ints.{beyond_below, beyond_above}
use Rattle.format.proofs.is_coefficient_beyond.Goals as goal

pub returns-then-v : goal.returns-then-v
returns-then-v c = beyond_below _ _ (simp (to_z-of_z c.ranges.v) at c.if-v.true)

pub returns : goal.returns
returns c = rw (to_z-of_z c.ranges.v) (beyond_above _ _ (simp (to_z-of_z c.ranges.v) at c.if-v.false))
