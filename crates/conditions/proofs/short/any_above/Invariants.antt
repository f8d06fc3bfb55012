-- One variable after the other: the first that is founded from above ends the loop.
use Prim.Native.Nat.{ℕ, ◌<◌}
use mathlib.Core.Path.{◌≡◌}
use mathlib.Core.Bool.{false}
use Rattle.program.specs.Program.{variable_in, variables_at}
use Rattle.program.specs.Variables.{from_above}
use Rattle.conditions.proofs.short.any_above.Given as goal

abbrev pub invariant-loop-v : goal.invariant-loop-v
invariant-loop-v l = (u : ℕ) → u < l.v → from_above (variable_in (variables_at l.file l.variables) u) ≡ false
