-- The founded variables whose value in the model comes before their assigned one, and a set in two parts; vs are the file's variables.
use Rattle.std.specs.Prelude.{ℕ, ◌≡◌, List, Bool, cond}
use Rattle.words.specs.Bit.{has}
use Rattle.program.specs.Program.{variable_in}
use Rattle.program.specs.Variables.{short}
use Rattle.program.specs.Readings.{Valuation}
use Rattle.program.specs.declared.Variable.{Variable}
use Rattle.report.specs.Written.{from_below_in, from_above_in}
use Rattle.conditions.specs.declared.short.Parts.{Parts}

-- variable v of these
abbrev pub short_in : List Variable → Valuation → Valuation → ℕ → Bool
short_in vs θ m v = short (variable_in vs v) (θ v) (m v)

-- the members of a set that are founded from above, where the first argument says so, or the others
abbrev pub part_in : Bool → List Variable → (ℕ → Bool) → ℕ → Bool
part_in above vs set v = cond above (from_above_in vs set v) (from_below_in vs set v)

pub record PartsAre (vs : List Variable) (set : ℕ → Bool) (p : Parts) : Type 0 where
  pub below : (v : ℕ) → has p.below.words v ≡ from_below_in vs set v
  pub above : (v : ℕ) → has p.above.words v ≡ from_above_in vs set v
