-- One position after the other.
use mathlib.Core.Path.{◌≡◌}
use mathlib.Core.Bool.{◌&&◌}
use lib.Dec.{eqb}
use lib.ListN.{length}
use Rattle.words.specs.Bit.{bit}
use Rattle.program.specs.Tables.{any_below}
use Rattle.program.specs.Program.{rule_of}
use Rattle.program.specs.Readings.{body_variable}
use Rattle.tables.specs.Tabled.{Entered}
use Rattle.tables.proofs.enter_rule.Given as goal

abbrev pub invariant-loop-j : goal.invariant-loop-j
invariant-loop-j l = (length l.readers ≡ length l.initial.readers)
    × Entered l.initial.readers l.readers l.k (λ x. any_below l.j (λ i. bit l.mask i && eqb (body_variable (rule_of l.value) i) x))
