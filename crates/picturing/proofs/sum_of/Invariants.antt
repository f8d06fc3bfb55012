-- Each of the elements passed adds 255 at most.
use Prim.Native.Nat.{◌*◌, ◌≤◌}
use Rattle.picturing.proofs.sum_of.Given as goal

abbrev pub invariant-loop-y : goal.invariant-loop-y
invariant-loop-y l = (l.y ≤ 64) × (l.sum ≤ 255 * l.y)
