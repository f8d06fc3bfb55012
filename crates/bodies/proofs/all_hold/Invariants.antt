-- Invariant: every literal before position i holds.
use mathlib.Core.Path.{◌≡◌}
use mathlib.Core.Bool.{true}
use Prim.Native.Nat.{◌≤◌, ◌-◌, ◌/◌}
use lib.ListN.{length}
use Rattle.program.specs.Program.{terms_of}
use Rattle.program.specs.Evaluate.{all_hold}
use Rattle.bodies.specs.Readings.{reading_of}
use Rattle.bodies.proofs.all_hold.Given as goal

abbrev pub invariant-loop-i : goal.invariant-loop-i
invariant-loop-i l = (l.i ≤ l.n) × (l.n ≡ length l.body / 4) × (true ≡ all_hold (terms_of l.body) (reading_of l.readings.kept l.readings.first.now l.readings.second.now (terms_of l.body)) l.i)
