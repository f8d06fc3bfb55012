-- The low byte of the number's 16 bits.
use mathlib.Core.Path.{◌≡◌}
use mir.Syntax.{w16}
use mir.Val.{of_z}
use mir.Facts.{to_z-of_z}
use native.Mathlib.Omega.{arith}
use Rattle.format.proofs.low_byte.Goals as goal

pub returns : goal.returns
returns c = let e : c.raw.result ≡ of_z w16 c.args.v = simp (to_z-of_z c.ranges.v) at c.raw.ensures.0 in omega arith
