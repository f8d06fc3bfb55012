-- One variable after the other: the first outside its range ends the loop.
use mathlib.Core.Path.{◌≡◌}
use Prim.Native.Nat.{ℕ, ◌<◌}
use mathlib.Core.Bool.{true}
use Rattle.program.specs.Program.{variable_in, variables_at}
use Rattle.program.specs.Variables.{in_range}
use Rattle.program.specs.Readings.{valued}
use Rattle.reduct.proofs.loading.first_outside.Given as goal

abbrev pub invariant-loop-v : goal.invariant-loop-v
invariant-loop-v l = (u : ℕ) → u < l.v → in_range (variable_in (variables_at l.file l.variables) u) ((valued l.values) u) ≡ true
