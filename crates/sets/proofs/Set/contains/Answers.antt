-- The bit of v in its word.
use mathlib.Core.Path.{refl}
use Rattle.words.specs.Bit.{bit, has}
use Rattle.sets.proofs.Set.contains.Goals as goal

pub returns : goal.returns
unfolding bit has
returns c = refl
