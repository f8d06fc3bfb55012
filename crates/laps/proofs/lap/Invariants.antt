-- Invariant: the run goes on.
use Prim.Native.Nat.{◌≤◌}
use mathlib.Core.Path.{◌≡◌}
use lib.ListN.{length}
use Rattle.format.specs.Limits.{max_variables}
use Rattle.words.specs.Bit.{word_count}
use Rattle.program.specs.Program.{Program, variables_at}
use Rattle.program.specs.Readings.{Valuation}
use Rattle.meaning.specs.Reduct.{Reckoning}
use Rattle.meaning.proofs.Steps.{gap}
use Rattle.tables.specs.Tabled.{row_words}
use Rattle.run.specs.Sourced.{RunningBy}
use Rattle.laps.proofs.lap.Given as goal

abbrev pub invariant-loop-k : goal.invariant-loop-k
invariant-loop-k l = ((P : Program) (R : Reckoning) (θ : Valuation) → RunningBy l.source P R θ l.readers l.initial.model l.initial.waiting
    → RunningBy l.source P R θ l.readers l.model l.waiting) × (length l.model ≡ max_variables) × (length l.waiting ≡ row_words)
    × (length l.by ≡ max_variables) × (length l.risen ≡ word_count) × (gap (variables_at l.source.file.now max_variables) l.model ≤ gap (variables_at l.source.file.now max_variables) l.initial.model)
