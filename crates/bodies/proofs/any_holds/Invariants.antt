-- Invariant: no literal before position i holds.
use mathlib.Core.Path.{◌≡◌}
use mathlib.Core.Bool.{false}
use Prim.Native.Nat.{◌≤◌, ◌-◌, ◌/◌}
use lib.ListN.{length}
use Rattle.program.specs.Tables.{any_below}
use Rattle.program.specs.Program.{terms_of, term_in}
use Rattle.program.specs.Evaluate.{holds}
use Rattle.bodies.specs.Readings.{reading_of}
use Rattle.bodies.proofs.any_holds.Given as goal

abbrev pub invariant-loop-i : goal.invariant-loop-i
invariant-loop-i l = (l.i ≤ l.n) × (l.n ≡ length l.body / 4) × (false ≡ any_below l.i (λ i. holds (term_in (terms_of l.body) i) (reading_of l.readings.kept l.readings.first.now l.readings.second.now (terms_of l.body) i)))
