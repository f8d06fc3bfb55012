-- Invariant: no variable before y shares x's component.
use Rattle.reach.specs.Rows.{row_has}
use Rattle.sharing.proofs.Sharings.{NoneBefore}
use Rattle.sharing.proofs.first_sharing.Given as goal

abbrev pub invariant-loop-y : goal.invariant-loop-y
invariant-loop-y l = NoneBefore (row_has l.sets) l.x l.y
