-- Invariant: the fields before the cursor are whole, and none of them is a tree; what is left of the file grows less.
use Prim.Native.Nat.{◌-◌}
use lib.ListN.{length}
use Rattle.plainpart.proofs.PlainLaws.{Seeking}
use Rattle.plainpart.proofs.first_tree.Given as goal

abbrev pub invariant-loop-tag : goal.invariant-loop-tag
invariant-loop-tag l = Seeking l.file l.cursor.at

abbrev pub decreases-loop-tag : goal.decreases-loop-tag
decreases-loop-tag l = length l.file - l.cursor.at

-- what the pattern bound
