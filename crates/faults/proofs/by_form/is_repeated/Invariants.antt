-- Invariant: no position before j has the variable of position i.
use mathlib.Core.Path.{◌≡◌}
use mathlib.Core.Bool.{false}
use Rattle.program.specs.Tables.{any_below}
use Rattle.faults.proofs.TermLaws.{same_as}
use Rattle.faults.proofs.by_form.is_repeated.Given as goal

abbrev pub invariant-loop-j : goal.invariant-loop-j
invariant-loop-j l = false ≡ any_below l.j (same_as l.body l.i)
