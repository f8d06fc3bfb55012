-- Invariant: the run goes on.
use Prim.Native.Nat.{◌≤◌}
use mathlib.Core.Path.{◌≡◌}
use lib.ListN.{length}
use Rattle.format.specs.Limits.{max_variables}
use Rattle.tables.specs.Tabled.{row_words}
use Rattle.hastening.specs.Kept.{RunKeptBy}
use Rattle.hastening.proofs.components.hasten.Given as goal

abbrev pub invariant-loop-p : goal.invariant-loop-p
invariant-loop-p l = RunKeptBy l.source l.readers l.initial.model l.initial.waiting l.model l.waiting × (length l.model ≡ max_variables) × (length l.waiting ≡ row_words)
    × (length l.by ≡ max_variables) × (l.p ≤ l.parts)
