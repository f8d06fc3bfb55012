use mir.Facts.{to_z-of_z}
use Rattle.guess.proofs.Near.{near_abs}
use Rattle.guess.proofs.numbers.near.Goals as goal

pub returns : goal.returns
returns c = rw (to_z-of_z c.ranges.a) (near_abs c.args.a (simp (to_z-of_z c.ranges.a) at c.if-a-gt-MAX_NUMBER.false) (simp (to_z-of_z c.ranges.a) at c.if-a.false))
