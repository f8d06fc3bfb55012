-- One rule after the other: the first that offends ends the loop.
use Prim.Native.Nat.{ℕ, ◌+◌, ◌<◌}
use mathlib.Core.Path.{◌≡◌}
use mathlib.Core.Bool.{false}
use lib.ListN.{length}
use Rattle.format.specs.Limits.{max_variables}
use Rattle.program.specs.Fields.{place}
use Rattle.program.specs.Program.{variables_at}
use Rattle.program.specs.Evaluable.{Small}
use Rattle.reach.specs.Rows.{row_has}
use Rattle.validity.specs.Marks.{rule_at, offends_by}
use Rattle.validity.proofs.rules.first_offending.Given as goal

abbrev pub invariant-loop-rule : goal.invariant-loop-rule
invariant-loop-rule l = (l.at ≡ place l.file (l.n + l.rule)) × ((length l.values ≡ max_variables) × Small l.values)
    × ((j : ℕ) → j < l.rule → offends_by (row_has l.rows) (variables_at l.file l.n) (rule_at l.file l.n j) ≡ false)
