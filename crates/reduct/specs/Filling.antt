-- What the code finds of values held in a list, and what it fills in.
use Rattle.std.specs.Prelude.{ℕ, ◌<◌, ◌≤◌, ◌≡◌, List, true, false, ℤ, Option, Some, None}
use Rattle.program.specs.Program.{variable_in}
use Rattle.program.specs.Variables.{in_range}
use Rattle.program.specs.Readings.{Valuation, valued}
use Rattle.program.specs.declared.Variable.{Variable}

-- ms' is ms with its first n values replaced by those of m
pub record Filled (m : Valuation) (n : ℕ) (ms ms' : List ℤ) : Type 0 where
  pub below : (v : ℕ) → v < n → valued ms' v ≡ m v
  pub past : (v : ℕ) → n ≤ v → valued ms' v ≡ valued ms v

-- the first of n variables outside its range
abbrev pub OutsideIs : List Variable → Valuation → ℕ → Option ℕ → Type 0
OutsideIs vs θ n (Some v) = (v < n) × (in_range (variable_in vs v) (θ v) ≡ false) × ((u : ℕ) → u < v → in_range (variable_in vs u) (θ u) ≡ true)
OutsideIs vs θ n None = (v : ℕ) → v < n → in_range (variable_in vs v) (θ v) ≡ true
