-- One rule after the other: each stands where the one before it ends.
use Prim.Native.Nat.{◌+◌, ◌-◌, ◌≤◌}
use mathlib.Core.Path.{◌≡◌}
use Rattle.program.specs.Fields.{place}
use Rattle.flattening.proofs.rules_end.Given as goal

abbrev pub invariant-loop-i : goal.invariant-loop-i
invariant-loop-i l = (l.i ≤ l.rules) × (l.at ≡ place l.plain (l.n + l.i))
