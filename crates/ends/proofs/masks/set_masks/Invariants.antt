-- One rule more is entered at each turn, for every program that the file means; there is one, since it is accepted.
use mathlib.Core.Path.{◌≡◌}
use Prim.Native.Nat.{◌≤◌}
use lib.ListN.{length}
use Rattle.program.specs.Program.{Program}
use Rattle.program.specs.Reading.{Accepts}
use Rattle.program.specs.Readings.{valued}
use Rattle.ends.proofs.MaskLaws.{FirstEntered}
use Rattle.ends.proofs.masks.set_masks.Given as goal

abbrev pub invariant-loop-i : goal.invariant-loop-i
invariant-loop-i l = (l.i ≤ l.rules) × ((length l.offsets ≡ length l.initial.offsets) × (length l.masks ≡ length l.initial.masks))
    × ((P : Program) → Accepts l.file P → FirstEntered l.file P (valued l.lows) (valued l.highs) l.i l.at l.offsets l.masks)
