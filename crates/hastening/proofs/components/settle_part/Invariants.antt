-- Invariant: the run goes on.
use mathlib.Core.Path.{◌≡◌}
use lib.ListN.{length}
use Rattle.format.specs.Limits.{max_variables}
use Rattle.words.specs.Bit.{word_count}
use Rattle.tables.specs.Tabled.{row_words}
use Rattle.hastening.specs.Kept.{RunKeptBy}
use Rattle.hastening.proofs.components.settle_part.Given as goal

abbrev pub invariant-loop : goal.invariant-loop
invariant-loop l = RunKeptBy l.source l.readers l.initial.model l.initial.waiting l.model l.waiting × (length l.model ≡ max_variables) × (length l.waiting ≡ row_words)
    × (length l.by ≡ max_variables) × (length l.risen ≡ word_count)
