-- The bit of i in its word.
use mathlib.Core.Path.{refl}
use Rattle.words.specs.Bit.{bit, has}
use Rattle.words.proofs.has_bit.Goals as goal

pub returns : goal.returns
unfolding bit has
returns c = refl
