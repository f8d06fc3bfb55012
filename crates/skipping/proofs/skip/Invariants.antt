use Prim.Native.Nat.{◌-◌}
use lib.ListN.{length}
use Rattle.skipping.proofs.Walk.{Skipping}
use Rattle.skipping.proofs.skip.Given as goal

abbrev pub invariant-loop-need : goal.invariant-loop-need
invariant-loop-need l = Skipping l.s l.at l.n l.need l.end l.inners

abbrev pub decreases-loop-need : goal.decreases-loop-need
decreases-loop-need l = length l.s - l.end

-- src/lib.rt:21:5
