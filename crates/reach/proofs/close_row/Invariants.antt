-- Invariant: the row has taken in the rows of the variables that are not left, and has nothing but what is reached; one more leaves at each turn.
use mathlib.Core.Path.{◌≡◌}
use lib.ListN.{length}
use Rattle.format.specs.Limits.{max_variables}
use Rattle.words.specs.Bit.{word_count, has, size_below}
use Rattle.reach.specs.Rows.{row_has}
use Rattle.reach.proofs.ClosingLaws.{Taking}
use Rattle.reach.proofs.close_row.Given as goal

abbrev pub invariant-loop-m : goal.invariant-loop-m
invariant-loop-m l = (length l.sets ≡ length l.initial.sets) × (length l.left ≡ word_count) × Taking (row_has l.initial.sets) (row_has l.sets) l.variables l.x (has l.left)

abbrev pub decreases-loop-m : goal.decreases-loop-m
decreases-loop-m l = size_below (has l.left) max_variables
