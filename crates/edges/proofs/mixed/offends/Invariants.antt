-- Invariant: no position before i is mixed with its variable in the head's component.
use mathlib.Core.Path.{◌≡◌}
use mathlib.Core.Bool.{false}
use Rattle.program.specs.Tables.{any_below}
use Rattle.program.specs.Program.{rule_of, variables_at}
use Rattle.reach.specs.Rows.{row_has}
use Rattle.edges.specs.Edges.{offends_at}
use Rattle.edges.proofs.mixed.offends.Given as goal

abbrev pub invariant-loop-i : goal.invariant-loop-i
invariant-loop-i l = false ≡ any_below l.i (offends_at (row_has l.rows) (variables_at l.file l.variables) (rule_of l.value))
