-- Invariant: the bytes before x are named, those from x on are as they were.
use Prim.Native.Nat.{◌≤◌, ◌-◌}
use Rattle.reach.specs.Rows.{row_has}
use Rattle.sharing.specs.Sharing.{Named}
use Rattle.sharing.proofs.name_each.Given as goal

abbrev pub invariant-loop-x : goal.invariant-loop-x
invariant-loop-x l = (l.x ≤ l.variables) × Named (row_has l.sets) l.x l.initial.buffer l.buffer
