-- The ranges of a tree's added variables, found from the last node to the first, in tables of all variables.
use Rattle.std.specs.Prelude.{ℕ, ◌*◌, ◌<◌, ◌≤◌, ◌≡◌, Bool, false, ◌||◌, List, [], ◌∷◌, ℤ, length, take}
use Rattle.format.specs.Limits.{max_variables, max_number}
use Rattle.format.specs.Numbers.{beyond}
use Rattle.program.specs.Program.{variable_in}
use Rattle.program.specs.Readings.{valued}
use Rattle.program.specs.Evaluable.{Small}
use Rattle.program.specs.Encode.{each, variable_bytes}
use Rattle.program.specs.declared.Variable.{Variable}

-- the bytes of all variables' fields
abbrev pub records_length : ℕ
records_length = 8 * max_variables

-- tables of the ends of the ranges
pub record Tables (lows highs : List ℤ) : Type 0 where
  pub lows_many : length lows ≡ max_variables
  pub highs_many : length highs ≡ max_variables
  pub lows_small : Small lows
  pub highs_small : Small highs

-- the tables and the fields of these variables
pub record Tabled (vs : List Variable) (records : List ℕ) (lows highs : List ℤ) : Type 0 where
  pub tables : Tables lows highs
  pub records_many : length records ≡ records_length
  pub few : length vs ≤ max_variables
  pub fields : take (8 * length vs) records ≡ each variable_bytes vs
  pub lows_are : (x : ℕ) → x < length vs → valued lows x ≡ (variable_in vs x).low
  pub highs_are : (x : ℕ) → x < length vs → valued highs x ≡ (variable_in vs x).high

-- some number is outside -30,000..30,000
unfoldable pub any_beyond : List ℤ → Bool
any_beyond [] = false
any_beyond (z ∷ zs) = beyond max_number z || any_beyond zs
