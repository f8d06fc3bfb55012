-- Invariant: c and the first i terms' amounts; each is small, so the sum so far fits.
use mathlib.Core.Path.{◌≡◌}
use Prim.Native.Nat.{◌-◌, ◌/◌, ◌≤◌}
use lib.ListN.{length}
use Rattle.program.specs.Program.{terms_of}
use Rattle.program.specs.Evaluate.{sum_below}
use Rattle.bodies.specs.Readings.{reading_of, weighted}
use Rattle.bodies.proofs.sum.Given as goal

abbrev pub invariant-loop-i : goal.invariant-loop-i
invariant-loop-i l = (l.i ≤ l.terms) × (l.terms ≡ length l.body / 4)
    × (l.total ≡ sum_below (weighted (terms_of l.body) (reading_of l.readings.kept l.readings.first.now l.readings.second.now (terms_of l.body))) l.i)
