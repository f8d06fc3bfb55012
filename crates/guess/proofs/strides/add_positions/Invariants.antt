use Prim.Native.Nat.{◌≤◌}
use mathlib.Core.Path.{◌≡◌}
use lib.ListN.{length}
use Rattle.program.specs.Program.{rule_of}
use Rattle.guess.proofs.strides.add_positions.Given as goal

abbrev pub invariant-loop-j : goal.invariant-loop-j
invariant-loop-j l = (l.n ≡ length (rule_of l.value).terms) × (l.j ≤ l.n)
