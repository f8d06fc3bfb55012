-- Each of the words passed adds less than 2^32 elements, whose sum is 16,320 at most.
use Prim.Native.Nat.{◌*◌, ◌≤◌}
use Rattle.picturing.proofs.sets_counted.Given as goal

abbrev pub invariant-loop-i : goal.invariant-loop-i
invariant-loop-i g l = (l.count ≤ 4294967295 * l.i) × (l.sum ≤ 16320 * l.i)
