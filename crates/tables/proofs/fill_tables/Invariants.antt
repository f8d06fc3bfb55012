-- One rule more is entered at each turn, for every program that the file means; there is one, since it is accepted.
use mathlib.Core.Path.{◌≡◌}
use lib.ListN.{length}
use Rattle.program.specs.Program.{Program}
use Rattle.program.specs.Reading.{Accepts}
use Rattle.reader.specs.Parts.{rule_place}
use Rattle.tables.specs.Laid.{FirstPlaced}
use Rattle.tables.proofs.fill_tables.Given as goal

abbrev pub invariant-loop-i : goal.invariant-loop-i
invariant-loop-i l = ((length l.offsets ≡ length l.initial.offsets) × (length l.masks ≡ length l.initial.masks))
    × ((P : Program) → Accepts l.file P → (l.at ≡ rule_place l.file P l.i) × FirstPlaced l.file P l.i l.offsets l.masks)
