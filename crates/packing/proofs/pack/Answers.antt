-- The word is below 256 and each number below 65,536, so the sum fits.
use native.Mathlib.Omega.{arith}
use Rattle.packing.specs.Packing.{packed}
use Rattle.packing.proofs.pack.Goals as goal

pub returns : goal.returns
unfolding packed
returns c = omega arith
