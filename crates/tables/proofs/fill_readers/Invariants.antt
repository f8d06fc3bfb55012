-- One rule more is entered at each turn, for every program that the file means.
use Prim.Native.Nat.{◌≤◌}
use mathlib.Core.Path.{◌≡◌}
use lib.ListN.{length}
use Rattle.format.specs.Limits.{max_rules}
use Rattle.program.specs.Program.{Program}
use Rattle.program.specs.Reading.{Accepts}
use Rattle.tables.specs.Tabled.{ReadersAre}
use Rattle.tables.proofs.fill_readers.Given as goal

abbrev pub invariant-loop-i : goal.invariant-loop-i
invariant-loop-i l = (l.rules ≤ max_rules) × (length l.readers ≡ length l.initial.readers) × ((P : Program) → Accepts l.file P → ReadersAre P l.i l.masks l.readers)
