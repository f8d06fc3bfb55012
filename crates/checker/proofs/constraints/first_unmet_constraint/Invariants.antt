-- One constraint more is met at each turn, for every program that the file means; there is one, since it is accepted.
use Prim.Native.Nat.{ℕ, ◌<◌, ◌≤◌}
use mathlib.Core.Path.{◌≡◌}
use Rattle.program.specs.Program.{Program}
use Rattle.program.specs.Reading.{Accepts}
use Rattle.reader.specs.Parts.{constraint_place}
use Rattle.meaning.specs.Stable.{ConstraintMet}
use Rattle.program.specs.Readings.{valued}
use Rattle.checker.proofs.constraints.first_unmet_constraint.Given as goal

abbrev pub invariant-loop-i : goal.invariant-loop-i
invariant-loop-i l = (l.i ≤ l.n) × ((P : Program) → Accepts l.file P → (l.at ≡ constraint_place l.file P l.i) × ((j : ℕ) → j < l.i → ConstraintMet P (valued l.assigned) j))
