-- Invariant: no position before i is mixed.
use mathlib.Core.Path.{◌≡◌}
use mathlib.Core.Bool.{false}
use Rattle.program.specs.Tables.{any_below}
use Rattle.program.specs.Program.{rule_of, variables_at}
use Rattle.program.specs.Directions.{direction, is_mixed}
use Rattle.edges.proofs.mixed.is_mixed.Given as goal

abbrev pub invariant-loop-i : goal.invariant-loop-i
invariant-loop-i l = false ≡ any_below l.i (λ j. is_mixed (direction (variables_at l.file l.variables) (rule_of l.value) j))
