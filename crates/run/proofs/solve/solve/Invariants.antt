-- Each raise keeps the values at or before every model and brings one of them nearer to its far end.
use mathlib.Core.Path.{◌≡◌}
use lib.ListN.{length}
use Rattle.format.specs.Limits.{max_variables}
use Rattle.program.specs.Program.{Program, variables_at}
use Rattle.program.specs.Readings.{Valuation}
use Rattle.meaning.specs.Reduct.{Reckoning}
use Rattle.meaning.proofs.Steps.{gap}
use Rattle.tables.specs.Tabled.{row_words}
use Rattle.run.specs.Running.{Running}
use Rattle.run.proofs.solve.solve.Given as goal

abbrev pub invariant-loop-i : goal.invariant-loop-i
invariant-loop-i l = ((P : Program) (R : Reckoning) (θ : Valuation) → Running l.source.file.now P R θ l.source.offsets.now l.source.masks.now l.readers l.source.others.now l.source.stops.now l.source.cut l.initial.model l.initial.waiting
    → Running l.source.file.now P R θ l.source.offsets.now l.source.masks.now l.readers l.source.others.now l.source.stops.now l.source.cut l.model l.waiting) × (length l.model ≡ max_variables) × (length l.waiting ≡ row_words)

abbrev pub decreases-loop-i : goal.decreases-loop-i
decreases-loop-i l = gap (variables_at l.source.file.now max_variables) l.model
