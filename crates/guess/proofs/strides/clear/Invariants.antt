use Prim.Native.Nat.{◌≤◌}
use mathlib.Core.Path.{◌≡◌}
use lib.ListN.{length}
use Rattle.format.specs.Limits.{max_variables}
use Rattle.program.specs.Evaluable.{Small}
use Rattle.guess.proofs.strides.clear.Given as goal

abbrev pub invariant-loop-v : goal.invariant-loop-v
invariant-loop-v l = (length l.strides ≡ max_variables) × Small l.strides × (l.many ≤ max_variables) × (l.v ≤ l.many)
