-- One field more is in order at each turn, for every program that the file means; there is one, since it is accepted.
use mathlib.Core.Path.{◌≡◌}
use Prim.Native.Nat.{◌-◌, ◌≤◌}
use lib.ListN.{length}
use Rattle.program.specs.Program.{Program}
use Rattle.program.specs.Reading.{Accepts}
use Rattle.ordering.proofs.FileLaws.{OrderedTo}
use Rattle.ordering.proofs.field.order_fields.Given as goal

abbrev pub invariant-loop-i : goal.invariant-loop-i
invariant-loop-i l = (l.i ≤ l.fields) × (length l.text ≡ length l.initial.text) × (length l.places ≡ length l.initial.places)
    × ((P : Program) → Accepts l.file P → OrderedTo l.file P l.text l.places l.i l.at)
