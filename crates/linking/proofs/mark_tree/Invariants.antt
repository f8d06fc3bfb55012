-- The root's rule, then one inner node after the other.
use Prim.Native.Nat.{◌*◌}
use mathlib.Core.Path.{◌≡◌}
use lib.ListN.{length}
use Rattle.format.specs.Limits.{max_variables}
use Rattle.program.specs.Program.{variables_at}
use Rattle.program.specs.Evaluable.{Small}
use Rattle.reach.specs.Rows.{rows_length}
use Rattle.linking.proofs.TreeMarks.{InnerMarked}
use Rattle.linking.proofs.mark_tree.Given as goal

abbrev pub invariant-loop-k : goal.invariant-loop-k
invariant-loop-k l = (length l.rows ≡ rows_length) × ((length l.values ≡ max_variables) × Small l.values)
    × InnerMarked (variables_at l.records l.variables) l.s 2 l.initial.number l.initial.rows l.rows (2 * l.k) l.number
