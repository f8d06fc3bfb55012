-- One position after the other.
use mathlib.Core.Path.{◌≡◌}
use lib.ListN.{length}
use Rattle.program.specs.Tables.{any_below}
use Rattle.program.specs.Program.{rule_of, variables_at}
use Rattle.reach.specs.Rows.{rows_length, row_has}
use Rattle.edges.specs.Edges.{Grown, draws_at}
use Rattle.edges.proofs.mark_by_direction.Given as goal

abbrev pub invariant-loop-i : goal.invariant-loop-i
invariant-loop-i l = (length l.rows ≡ rows_length)
    × Grown (row_has l.initial.rows) (row_has l.rows) (λ a b. any_below l.i (λ j. draws_at (variables_at l.file l.variables) (rule_of l.value) j a b))
