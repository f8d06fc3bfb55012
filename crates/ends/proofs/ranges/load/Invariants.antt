-- Invariant: the first v ranges are loaded, the others as they were.
use mathlib.Core.Path.{◌≡◌}
use Prim.Native.Nat.{◌/◌, ◌≤◌}
use lib.ListN.{length}
use Rattle.format.specs.Limits.{max_variables}
use Rattle.reduct.specs.Filling.{Filled}
use Rattle.lent.specs.Ranges.{low_in, high_in}
use Rattle.ends.proofs.ranges.load.Given as goal

abbrev pub invariant-loop-v : goal.invariant-loop-v
invariant-loop-v l = (l.v ≤ l.n) × (l.n ≡ length l.bytes / 4) × (length l.lows ≡ max_variables) × (length l.highs ≡ max_variables) × Filled (low_in l.bytes) l.v l.initial.lows l.lows
    × Filled (high_in l.bytes) l.v l.initial.highs l.highs
