-- Invariant: the rows before i are done, those from i on are as they were.
use mathlib.Core.Path.{◌≡◌}
use Prim.Native.Nat.{◌≤◌, ◌-◌}
use lib.ListN.{length}
use Rattle.reach.specs.Rows.{row_has}
use Rattle.reach.proofs.Rounds.{Upto}
use Rattle.reach.proofs.round.Given as goal

abbrev pub invariant-loop-i : goal.invariant-loop-i
invariant-loop-i l = (l.i ≤ l.n) × (length l.rows ≡ length l.initial.rows) × Upto (row_has l.initial.rows) (row_has l.rows) l.k l.i
