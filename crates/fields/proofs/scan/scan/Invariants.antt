-- Invariant: the fields before the cursor meet no refusal and are counted; what is left of the file grows less.
use Prim.Native.Nat.{◌-◌}
use lib.ListN.{length}
use Rattle.fields.proofs.ScanLaws.{Reached}
use Rattle.fields.proofs.scan.scan.Given as goal

abbrev pub invariant-loop-tag : goal.invariant-loop-tag
invariant-loop-tag l = Reached l.file l.cursor.at l.before l.counts

abbrev pub decreases-loop-tag : goal.decreases-loop-tag
decreases-loop-tag l = length l.file - l.cursor.at

-- what the pattern bound
