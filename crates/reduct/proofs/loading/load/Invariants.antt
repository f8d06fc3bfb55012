-- Invariant: the first i values are loaded, the others as they were.
use mathlib.Core.Path.{◌≡◌}
use Prim.Native.Nat.{◌/◌, ◌≤◌}
use lib.ListN.{length}
use Rattle.format.specs.Limits.{max_variables}
use Rattle.meaning.specs.Stable.{assigned}
use Rattle.reduct.specs.Filling.{Filled}
use Rattle.reduct.proofs.loading.load.Given as goal

abbrev pub invariant-loop-v : goal.invariant-loop-v
invariant-loop-v l = (l.v ≤ l.n) × (l.n ≡ length l.bytes / 2) × (length l.values ≡ max_variables) × Filled (assigned l.bytes) l.v l.initial.values l.values
