-- `read_full` ends, since each turn leaves less to fill.
use Rattle.std.proofs.Common.{◌≡◌, ◌-◌, ◌≤◌, length}
use Rattle.telling.proofs.read_full.Given as goal

abbrev pub invariant-loop-done : goal.invariant-loop-done
invariant-loop-done g l = (length l.table ≡ length l.initial.table) × (l.done ≤ length l.table)

abbrev pub decreases-loop-done : goal.decreases-loop-done
decreases-loop-done g l = length l.table - l.done
