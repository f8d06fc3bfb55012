-- The bounds of a program with lent ranges, written to a buffer.
use Rattle.std.specs.Prelude.{ℕ, ◌*◌, ◌≡◌, List, ◌++◌, ℤ, length, drop, Result}
use Rattle.program.specs.Program.{Program}
use Rattle.program.specs.Reading.{Accepts}
use Rattle.program.specs.Readings.{Valuation, valued}
use Rattle.meaning.specs.LeastCall.{written}
use Rattle.meaning.specs.Reduct.{reckoned}
use Rattle.meaning.proofs.Theory.{Progress}
use Rattle.lent.specs.Lent.{lent, Bounds}
use Rattle.run.specs.Running.{EndsWith}
use Rattle.ends.specs.Ends.{other_ends}
use Rattle.run.specs.declared.NoModel.{NoModel}

-- b' is b with the bounds in its first bytes
pub record BoundsWritten (P : Program) (low high : Valuation) (b b' : List ℕ) : Type 0 where
  pub model : Valuation
  pub bounds : Bounds P low high model
  pub bytes : b' ≡ written model (length P.variables) ++ drop (2 * length P.variables) b

-- the list has the ends at which variables are read that are not read at their bounds so far
abbrev pub AtOthers : List ℕ → Valuation → Valuation → List ℤ → Type 0
AtOthers s low high others = (P : Program) → Accepts s P → (v : ℕ) → valued others v ≡ other_ends P.variables low high v

-- the values m are on the way to the bounds of the program that the file means
abbrev pub OnTheWay : List ℕ → Valuation → Valuation → Valuation → Type 0
OnTheWay s low high m = (P : Program) → Accepts s P → Progress (reckoned P (lent P low high)) low m

-- what a run to the bounds ends with
abbrev pub EndsBounded : List ℕ → Valuation → Valuation → Valuation → Result (Unit {0}) NoModel → Type 0
EndsBounded s low high m e = (P : Program) → Accepts s P → EndsWith P (lent P low high) low m e
