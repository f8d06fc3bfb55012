-- Invariant: the rounds of the variables below k are done; a step does that of k.
use mathlib.Core.Path.{◌≡◌}
use Prim.Native.Nat.{◌≤◌, ◌-◌}
use lib.ListN.{length}
use Rattle.reach.specs.Rows.{row_has}
use Rattle.reach.specs.Stepping.{Lent}
use Rattle.reach.proofs.StepLaws.{Done}
use Rattle.reach.proofs.close.Given as goal

abbrev pub invariant-loop-k : goal.invariant-loop-k
invariant-loop-k l = (l.k ≤ l.variables) × (length l.sets ≡ length l.initial.sets) × Lent l.sets l.variables × Done (row_has l.initial.sets) (row_has l.sets) l.variables l.k
