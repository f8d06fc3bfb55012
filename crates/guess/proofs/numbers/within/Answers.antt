use mir.Facts.{to_z-of_z}
use Rattle.guess.proofs.Near.{within_abs}
use Rattle.guess.proofs.numbers.within.Goals as goal

pub returns : goal.returns
returns c = rw (to_z-of_z c.ranges.a) (within_abs c.args.a (simp (to_z-of_z c.ranges.a) at c.if-a-gt-LARGEST.false) (simp (to_z-of_z c.ranges.a) at c.if-a.false))
