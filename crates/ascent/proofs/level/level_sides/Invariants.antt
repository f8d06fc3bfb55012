-- One variable after the other, on both sides.
use mathlib.Core.Path.{◌≡◌}
use lib.ListN.{length}
use Rattle.program.specs.Readings.{valued}
use Rattle.sided.specs.Sides.{sides_length}
use Rattle.ascent.specs.Level.{LevelSides}
use Rattle.ascent.proofs.level.level_sides.Given as goal

abbrev pub invariant-loop-v : goal.invariant-loop-v
invariant-loop-v l = (length l.sides ≡ sides_length) × LevelSides l.v (valued l.assigned) l.initial.sides l.sides
