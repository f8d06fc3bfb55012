-- Each line starts after the one before it: what is left of the table gets shorter, and no more lines are counted than bytes are passed.
use Rattle.std.proofs.Common.{◌≡◌, ◌-◌, ◌≤◌, length}
use Rattle.cases.proofs.each.Given as goal

abbrev pub invariant-loop-at : goal.invariant-loop-at
invariant-loop-at g l =
    (length l.bytes ≡ length l.initial.bytes) × (length l.room ≡ length l.initial.room) × (l.number ≤ l.at)

abbrev pub decreases-loop-at : goal.decreases-loop-at
decreases-loop-at g l = length l.table - l.at
