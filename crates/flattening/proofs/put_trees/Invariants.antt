-- One tree after the other: each stands where the one before it ends, and its rules are put in after those before it.
use Prim.Native.Nat.{◌-◌}
use lib.ListN.{length}
use Rattle.flattening.proofs.TreesPutting.{TreesPutTo}
use Rattle.flattening.proofs.put_trees.Given as goal

abbrev pub invariant-loop-place : goal.invariant-loop-place
invariant-loop-place l = TreesPutTo l.file l.variables l.records l.initial.next l.initial.buffer l.at l.buffer l.place l.next l.end

abbrev pub decreases-loop-place : goal.decreases-loop-place
decreases-loop-place l = length l.file - l.place
