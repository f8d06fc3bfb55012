-- Both tests are those of the definition.
use mathlib.Core.Path.{ap₂}
use mathlib.Core.Bool.{◌&&◌}
use mir.Facts.{to_z-of_z}
use Rattle.program.proofs.Variable.is_short.Goals as goal

pub returns : goal.returns
returns c = ap₂ ◌&&◌ c.is_founded-founded.ensures (simp (to_z-of_z c.ranges.assigned, to_z-of_z c.ranges.least) at c.is_before-before.ensures)
