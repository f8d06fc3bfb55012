-- Invariant: the rules that left the set are met; the lowest that demands more is the answer.
use mathlib.Core.Path.{◌≡◌}
use lib.ListN.{length}
use Rattle.format.specs.Limits.{max_rules}
use Rattle.words.specs.Bit.{has, size_below}
use Rattle.program.specs.Program.{Program}
use Rattle.meaning.specs.Reduct.{Reckoning}
use Rattle.run.specs.Running.{AsAssigned, Reckons, MetOutside, Inside}
use Rattle.tables.specs.Tabled.{row_words}
use Rattle.program.specs.Readings.{Valuation, valued}
use Rattle.run.proofs.demands.step.Given as goal

abbrev pub invariant-loop-i : goal.invariant-loop-i
invariant-loop-i l = (length l.waiting ≡ row_words) × Inside (has l.waiting) (has l.initial.waiting)
    × ((P : Program) (R : Reckoning) (θ : Valuation) → Reckons l.source.file.now P R θ l.source.offsets.now l.source.masks.now l.source.others.now l.source.stops.now l.source.cut → AsAssigned P θ l.model
    → MetOutside P R θ (valued l.model) (has l.initial.waiting) → MetOutside P R θ (valued l.model) (has l.waiting))

abbrev pub decreases-loop-i : goal.decreases-loop-i
decreases-loop-i l = size_below (has l.waiting) max_rules
