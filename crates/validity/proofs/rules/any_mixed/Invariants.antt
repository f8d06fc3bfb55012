-- One rule after the other: each stands where the one before it ends, and the first with a mixed position ends the loop.
use Prim.Native.Nat.{ℕ, ◌+◌, ◌<◌}
use mathlib.Core.Path.{◌≡◌}
use mathlib.Core.Bool.{false}
use Rattle.program.specs.Fields.{place}
use Rattle.program.specs.Program.{variables_at}
use Rattle.edges.specs.Edges.{any_mixed}
use Rattle.validity.specs.Marks.{rule_at}
use Rattle.validity.proofs.rules.any_mixed.Given as goal

abbrev pub invariant-loop-i : goal.invariant-loop-i
invariant-loop-i l = (l.at ≡ place l.file (l.n + l.i)) × ((j : ℕ) → j < l.i → any_mixed (variables_at l.file l.n) (rule_at l.file l.n j) ≡ false)
