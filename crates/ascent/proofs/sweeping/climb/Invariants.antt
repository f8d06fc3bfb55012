-- The values stay on the way from sweep to sweep, of which there are few; a sweep without a raise is the end, and so are values that have all arrived.
use Prim.Native.Nat.{◌-◌, ◌≤◌}
use mathlib.Core.Path.{◌≡◌}
use lib.ListN.{length}
use Rattle.format.specs.Limits.{max_rules}
use Rattle.sided.specs.Sides.{sides_length}
use Rattle.ascent.specs.Ascending.{most_sweeps}
use Rattle.ascent.proofs.ClimbLaws.{Onward}
use Rattle.ascent.proofs.sweeping.climb.Given as goal

abbrev pub invariant-loop-counts : goal.invariant-loop-counts
invariant-loop-counts l = (l.last ≤ max_rules) × (length l.sides ≡ sides_length) × Onward l.file l.stops l.full l.initial.sides l.sides

abbrev pub decreases-loop-counts : goal.decreases-loop-counts
decreases-loop-counts l = most_sweeps - l.done
