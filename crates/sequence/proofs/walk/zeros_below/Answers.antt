-- A word has no more zeros than bits.
use native.Mathlib.Omega.{arith}
use lib.Count.{trailing_le}
use Rattle.words.specs.Bit.{word_bits}
use Rattle.sequence.proofs.walk.zeros_below.Goals as goal

pub overflow_cast-result : goal.overflow_cast-result
overflow_cast-result c = omega (arith, trailing_le word_bits c.args.w)

pub returns : goal.returns
returns c = omega (arith, trailing_le word_bits c.args.w)
