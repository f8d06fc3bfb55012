-- One tree after the other: each stands where the one before it ends.
use Prim.Native.Nat.{◌-◌}
use mathlib.Core.Path.{◌≡◌}
use lib.ListN.{length}
use Rattle.format.specs.Limits.{max_variables}
use Rattle.program.specs.Evaluable.{Small}
use Rattle.reach.specs.Rows.{rows_length}
use Rattle.linking.proofs.TreesMarks.{TreesWalked}
use Rattle.linking.proofs.mark_trees.Given as goal

abbrev pub invariant-loop-at : goal.invariant-loop-at
invariant-loop-at l = (length l.rows ≡ rows_length) × ((length l.values ≡ max_variables) × Small l.values) × TreesWalked l.file l.variables l.records l.initial.next l.initial.rows l.rows l.at l.next

abbrev pub decreases-loop-at : goal.decreases-loop-at
decreases-loop-at l = length l.file - l.at
