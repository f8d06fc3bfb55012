-- One variable after the other, each on both sides.
use mathlib.Core.Path.{◌≡◌}
use Prim.Native.Nat.{◌≤◌}
use lib.ListN.{length}
use Rattle.program.specs.Program.{variables_at}
use Rattle.program.specs.Readings.{valued}
use Rattle.sided.specs.Sides.{sides_length}
use Rattle.ascent.specs.Ascending.{SidesStart}
use Rattle.ascent.proofs.starts.start_sides.Given as goal

abbrev pub invariant-loop-v : goal.invariant-loop-v
invariant-loop-v l = (l.v ≤ l.n) × (length l.sides ≡ sides_length) × SidesStart (variables_at l.file l.n) l.v (valued l.assigned) (valued l.others) l.initial.sides l.sides
