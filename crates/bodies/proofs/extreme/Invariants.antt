-- Invariant: the largest, or the smallest, of the first i values; a turn takes the larger, or the smaller, of it and the next.
use mathlib.Core.Path.{◌≡◌}
use Prim.Native.Nat.{◌≤◌, ◌-◌, ◌/◌}
use lib.ListN.{length}
use Rattle.program.specs.Program.{terms_of}
use Rattle.program.specs.Evaluate.{pick_to}
use Rattle.bodies.specs.Readings.{reading_of, extreme}
use Rattle.bodies.proofs.extreme.Given as goal

abbrev pub invariant-loop-i : goal.invariant-loop-i
invariant-loop-i l = (1 ≤ l.i) × (l.i ≤ l.n) × (l.n ≡ length l.body / 4) × (l.found ≡ pick_to (extreme l.most) (reading_of l.readings.kept l.readings.first.now l.readings.second.now (terms_of l.body)) (l.i - 1))
