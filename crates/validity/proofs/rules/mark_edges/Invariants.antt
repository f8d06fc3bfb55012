-- One rule after the other: each stands where the one before it ends.
use Prim.Native.Nat.{◌+◌}
use mathlib.Core.Path.{◌≡◌}
use lib.ListN.{length}
use Rattle.format.specs.Limits.{max_variables}
use Rattle.program.specs.Tables.{any_below}
use Rattle.program.specs.Fields.{place}
use Rattle.program.specs.Program.{variables_at}
use Rattle.program.specs.Evaluable.{Small}
use Rattle.reach.specs.Rows.{rows_length, row_has}
use Rattle.edges.specs.Edges.{Grown}
use Rattle.validity.specs.Marks.{rule_at, draws_by}
use Rattle.validity.proofs.rules.mark_edges.Given as goal

abbrev pub invariant-loop-i : goal.invariant-loop-i
invariant-loop-i l = (l.at ≡ place l.file (l.n + l.i)) × (length l.rows ≡ rows_length) × ((length l.values ≡ max_variables) × Small l.values)
    × Grown (row_has l.initial.rows) (row_has l.rows) (λ a b. any_below l.i (λ j. draws_by (variables_at l.file l.n) (rule_at l.file l.n j) a b))
