-- Invariant: the rows of the set below `from` are closed; the next of the set is the next to close.
use Prim.Native.Nat.{◌-◌}
use mathlib.Core.Path.{◌≡◌}
use mathlib.Core.Bool.{◌&&◌}
use lib.Dec.{ltb}
use lib.ListN.{length}
use Rattle.words.specs.Bit.{has}
use Rattle.reach.specs.Rows.{row_has}
use Rattle.reach.specs.Closing.{Closed}
use Rattle.reach.proofs.close_rows.Given as goal

abbrev pub invariant-loop-x : goal.invariant-loop-x
invariant-loop-x l = (length l.sets ≡ length l.initial.sets) × Closed (row_has l.initial.sets) (row_has l.sets) l.variables (λ a. ltb a l.from && has l.of.words a)

abbrev pub decreases-loop-x : goal.decreases-loop-x
decreases-loop-x l = l.variables - l.from
