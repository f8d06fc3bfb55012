-- The high byte times 256 and the low byte, which fits.
use native.Mathlib.Omega.{arith}
use Rattle.format.proofs.joined.Goals as goal

pub returns : goal.returns
returns c = (omega arith, omega arith)
