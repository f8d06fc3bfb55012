-- The test is the definition.
use mathlib.Core.Path.{refl}
use Rattle.sided.specs.Reached.{own_side}
use Rattle.ascent.proofs.starts.own_side.Goals as goal

pub returns : goal.returns
unfolding own_side
returns c = refl
