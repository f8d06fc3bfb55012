-- Each of the bytes passed adds 255 at most, and 1 at most to the count.
use Prim.Native.Nat.{◌*◌, ◌≤◌}
use Rattle.picturing.proofs.names_counted.Given as goal

abbrev pub invariant-loop-x : goal.invariant-loop-x
invariant-loop-x g l = (l.count ≤ l.x) × (l.sum ≤ 255 * l.x)
