-- Invariant: every literal before position i holds.
use mathlib.Core.Path.{◌≡◌}
use mathlib.Core.Bool.{Bool, true}
use Prim.Native.Nat.{ℕ, ◌≤◌, ◌/◌}
use lib.ListN.{length}
use Rattle.program.specs.Program.{terms_of}
use Rattle.program.specs.Evaluate.{all_hold}
use Rattle.sided.specs.Sides.{sided_reading}
use Rattle.sided.proofs.all_hold.Given as goal

abbrev pub invariant-loop-i : goal.invariant-loop-i
invariant-loop-i l = (l.i ≤ l.n) × (l.n ≡ length l.body / 4) × ((form : ℕ) (side : Bool) → true ≡ all_hold (terms_of l.body) (sided_reading l.sides form side (terms_of l.body)) l.i)
