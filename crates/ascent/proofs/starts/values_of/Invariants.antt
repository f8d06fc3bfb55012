-- One variable after the other, each with the value on its own side.
use mathlib.Core.Path.{◌≡◌}
use Prim.Native.Nat.{◌≤◌}
use lib.ListN.{length}
use Rattle.format.specs.Limits.{max_variables}
use Rattle.program.specs.Program.{variables_at}
use Rattle.reduct.specs.Filling.{Filled}
use Rattle.sided.specs.Reached.{risen}
use Rattle.ascent.proofs.starts.values_of.Given as goal

abbrev pub invariant-loop-v : goal.invariant-loop-v
invariant-loop-v l = (l.v ≤ l.n) × (length l.model ≡ max_variables) × Filled (risen (variables_at l.file l.n) l.sides) l.v l.initial.model l.model
