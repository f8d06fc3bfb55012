-- Invariant: the run goes on, and the targets are numbers of the format's range.
use mathlib.Core.Path.{◌≡◌}
use lib.ListN.{length}
use Rattle.format.specs.Limits.{max_variables}
use Rattle.program.specs.Evaluable.{Small}
use Rattle.tables.specs.Tabled.{row_words}
use Rattle.hastening.specs.Kept.{RunKeptBy}
use Rattle.hastening.proofs.leaps.leap_by_doubles.Given as goal

abbrev pub invariant-loop : goal.invariant-loop
invariant-loop l = RunKeptBy l.source l.readers l.initial.model l.initial.waiting l.model l.waiting × (length l.model ≡ max_variables) × (length l.waiting ≡ row_words)
    × (length l.target ≡ max_variables) × Small l.target
