-- One range after the other: the first that does not fit ends the loop.
use Prim.Native.Nat.{◌≤◌}
use mathlib.Core.Bool.{true}
use Rattle.program.specs.Program.{variables_at}
use Rattle.program.specs.Readings.{valued}
use Rattle.ends.specs.Ends.{FitIs}
use Rattle.ends.proofs.ranges.all_fit.Given as goal

abbrev pub invariant-loop-v : goal.invariant-loop-v
invariant-loop-v l = (l.v ≤ l.variables) × FitIs (variables_at l.file l.variables) (valued l.lows) (valued l.highs) l.v true
