-- One variable after the other, each with its two ends.
use mathlib.Core.Path.{◌≡◌}
use Prim.Native.Nat.{◌≤◌}
use lib.ListN.{length}
use Rattle.format.specs.Limits.{max_variables}
use Rattle.program.specs.Program.{variables_at}
use Rattle.program.specs.Readings.{valued}
use Rattle.reduct.specs.Filling.{Filled}
use Rattle.ends.specs.Ends.{other_ends, stop_ends}
use Rattle.ends.proofs.ranges.set_ends.Given as goal

abbrev pub invariant-loop-v : goal.invariant-loop-v
invariant-loop-v l = (l.v ≤ l.variables) × (length l.others ≡ max_variables) × (length l.stops ≡ max_variables)
    × Filled (other_ends (variables_at l.file l.variables) (valued l.lows) (valued l.highs)) l.v l.initial.others l.others
    × Filled (stop_ends (variables_at l.file l.variables) (valued l.lows) (valued l.highs)) l.v l.initial.stops l.stops
