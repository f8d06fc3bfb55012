use Prim.Native.Nat.{ℕ, ◌<◌, ◌≤◌}
use mathlib.Core.Path.{◌≡◌}
use lib.ListN.{length}
use Rattle.format.specs.Limits.{max_variables}
use Rattle.program.specs.Evaluable.{Small}
use lib.IntN.{pos}
use lib.Signed.{◌≤ℤ◌}
use Rattle.program.specs.Readings.{valued}
use Rattle.guess.proofs.strides.end.Given as goal

abbrev pub invariant-loop-v : goal.invariant-loop-v
invariant-loop-v l = (length l.strides ≡ max_variables) × Small l.strides × ((l.many ≤ max_variables) × (l.v ≤ l.many)) × ((u : ℕ) → u < l.v → pos 1 ≤ℤ valued l.strides u)
