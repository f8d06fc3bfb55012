-- Invariant: the values are on the way, and the next rule is rule i; while there is no raise it is rule 0.
use Prim.Native.Nat.{◌-◌, ◌≤◌}
use mathlib.Core.Path.{◌≡◌}
use lib.ListN.{length}
use Rattle.program.specs.Program.{Program}
use Rattle.program.specs.Reading.{Accepts}
use Rattle.reader.specs.Parts.{rule_place}
use Rattle.sided.specs.Sides.{sides_length}
use Rattle.ascent.proofs.ClimbLaws.{Onward}
use Rattle.ascent.proofs.sweeping.sweep.Given as goal

abbrev pub invariant-loop-j : goal.invariant-loop-j
invariant-loop-j l = (l.i ≤ l.counts.rules) × (l.raises ≤ l.i) × (l.raises ≡ 0 → l.i ≡ 0) × (length l.sides ≡ sides_length) × ((P : Program) → Accepts l.file P → l.at ≡ rule_place l.file P l.i)
    × Onward l.file l.stops l.full l.initial.sides l.sides

abbrev pub decreases-loop-j : goal.decreases-loop-j
decreases-loop-j l = l.counts.rules - l.i
