-- Invariant: the rules of the inner nodes before `place` have been put in.
use Prim.Native.Nat.{◌-◌}
use lib.ListN.{length}
use Rattle.noderules.proofs.Rules.{InnerPut}
use Rattle.noderules.proofs.put_inner.Given as goal

abbrev pub invariant-loop-place : goal.invariant-loop-place
invariant-loop-place l = InnerPut l.s l.from l.next l.initial.out l.at l.out l.place l.number l.end

abbrev pub decreases-loop-place : goal.decreases-loop-place
decreases-loop-place l = length l.s - l.place
