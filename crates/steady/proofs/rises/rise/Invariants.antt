-- Invariant: the room that the first i positions leave, and their rise. Where no room is left, the positions that follow add nothing.
use mathlib.Core.Path.{◌≡◌}
use Prim.Native.Nat.{◌/◌, ◌≤◌}
use lib.IntN.{pos, nat_abs}
use lib.ListN.{length}
use Rattle.program.specs.Program.{terms_of}
use Rattle.steady.specs.Estimate.{room_below, rise_below, number_at}
use Rattle.steady.specs.Steps.{steps_at}
use Rattle.steady.specs.Strides.{stride_at}
use Rattle.steady.proofs.rises.rise.Given as goal

abbrev pub invariant-loop-i : goal.invariant-loop-i
invariant-loop-i l = (l.i ≤ l.n) × (l.n ≡ length l.body / 4)
    × (l.left ≡ pos (room_below (nat_abs l.room) (number_at (terms_of l.body)) (stride_at l.strides (terms_of l.body)) (steps_at l.readings.kept l.readings.first.now l.aims (terms_of l.body)) l.i))
    × (l.total ≡ pos (rise_below (nat_abs l.room) (number_at (terms_of l.body)) (stride_at l.strides (terms_of l.body)) (steps_at l.readings.kept l.readings.first.now l.aims (terms_of l.body)) l.i))
