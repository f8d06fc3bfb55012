-- One rule more has had its turn, for every program that the file means; there is one, since it is accepted.
use mathlib.Core.Path.{◌≡◌}
use Prim.Native.Nat.{◌≤◌}
use lib.ListN.{length}
use Rattle.program.specs.Program.{Program}
use Rattle.program.specs.Reading.{Accepts}
use Rattle.program.specs.Readings.{valued}
use Rattle.reader.specs.Parts.{rule_place}
use Rattle.sided.specs.Sides.{sides_length}
use Rattle.ends.specs.Freed.{Freed}
use Rattle.ends.proofs.free.free_heads.Given as goal

abbrev pub invariant-loop : goal.invariant-loop
invariant-loop l = (l.counter ≤ l.rules) × (length l.sides ≡ sides_length) × ((P : Program) → Accepts l.file P → l.at ≡ rule_place l.file P l.counter)
    × ((P : Program) → Accepts l.file P → Freed P (valued l.lows) (valued l.highs) 0 l.initial.sides → Freed P (valued l.lows) (valued l.highs) l.counter l.sides)
