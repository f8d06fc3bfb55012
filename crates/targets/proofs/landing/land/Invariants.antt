-- One variable after the other becomes its aim.
use Prim.Native.Nat.{ℕ, ◌≤◌}
use mathlib.Core.Path.{◌≡◌}
use mathlib.Core.Bool.{Bool}
use mathlib.Core.List.{List}
use lib.IntN.{ℤ}
use lib.ListN.{length}
use Rattle.format.specs.Limits.{max_variables}
use Rattle.program.specs.Program.{Program, variables_at}
use Rattle.program.specs.Readings.{Valuation}
use Rattle.meaning.specs.Reduct.{Reckoning}
use Rattle.meaning.proofs.Steps.{gap}
use Rattle.tables.specs.Tabled.{row_words}
use Rattle.targets.specs.Aims.{Landing}
use Rattle.targets.proofs.landing.land.Given as goal

abbrev pub invariant-loop-v : goal.invariant-loop-v
invariant-loop-v l = (l.v ≤ l.variables) × (length l.model ≡ max_variables) × (length l.waiting ≡ row_words)
    × ((s : List ℕ) (P : Program) (R : Reckoning) (θ : Valuation) (offsets masks : List ℕ) (others stops : List ℤ) (cut : Bool)
    → Landing s P R θ offsets masks l.readers others stops cut l.aims l.initial.model l.initial.waiting → Landing s P R θ offsets masks l.readers others stops cut l.aims l.model l.waiting
    × (gap (variables_at s max_variables) l.model ≤ gap (variables_at s max_variables) l.initial.model))
