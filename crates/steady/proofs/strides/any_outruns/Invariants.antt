-- One position after the other.
use mathlib.Core.Path.{◌≡◌}
use Prim.Native.Nat.{◌/◌, ◌≤◌}
use lib.IntN.{nat_abs}
use lib.ListN.{length}
use Rattle.program.specs.Tables.{any_below}
use Rattle.program.specs.Program.{terms_of}
use Rattle.steady.specs.Estimate.{outruns}
use Rattle.steady.specs.Steps.{steps_at}
use Rattle.steady.specs.Strides.{stride_at}
use Rattle.steady.proofs.strides.any_outruns.Given as goal

abbrev pub invariant-loop-i : goal.invariant-loop-i
invariant-loop-i l = (l.i ≤ l.n) × (l.n ≡ length l.body / 4)
    × (l.found ≡ any_below l.i (outruns (nat_abs l.own) (stride_at l.strides (terms_of l.body)) (terms_of l.body) (steps_at l.readings.kept l.readings.first.now l.aims (terms_of l.body))))
