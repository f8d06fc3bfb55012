-- Invariant: the fields before the cursor pass, and what is known is that of their nested program; what is left of the file grows less.
use Prim.Native.Nat.{◌-◌}
use lib.ListN.{length}
use Rattle.nesting.proofs.Surveys.{Reached}
use Rattle.nesting.proofs.survey_trees.Given as goal

abbrev pub invariant-loop-tag : goal.invariant-loop-tag
invariant-loop-tag l = Reached l.file l.n l.from l.cursor.at l.totals l.records l.lows l.highs

abbrev pub decreases-loop-tag : goal.decreases-loop-tag
decreases-loop-tag l = length l.file - l.cursor.at

-- what the pattern bound
