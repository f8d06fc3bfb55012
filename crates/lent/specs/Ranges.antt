-- Document 02, wish 7: "In a week being filled, each variable has a range inside its declared one."
use Rattle.std.specs.Prelude.{ℕ, ◌+◌, ◌*◌, ◌<◌, ◌≡◌, Bool, true, cond, ◌&&◌, List, T, ℤ, length}
use Rattle.std.specs.Int.Signed.{le_z}
use Rattle.format.specs.Numbers.{signed_at}
use Rattle.program.specs.Program.{Program, variable_in}
use Rattle.program.specs.Variables.{is_founded, swaps}
use Rattle.program.specs.Readings.{Valuation}
use Rattle.program.specs.declared.Variable.{Variable}

-- "Ranges come as low and high, 4 bytes a variable"
abbrev pub low_in : List ℕ → Valuation
low_in g v = signed_at g (4 * v)

abbrev pub high_in : List ℕ → Valuation
high_in g v = signed_at g (4 * v + 2)

-- the range of x lies inside its declared one and is not empty
unfoldable pub fits : Variable → ℤ → ℤ → Bool
fits x low high = le_z x.low low && (le_z low high && le_z high x.high)

-- so does every range
abbrev pub AllFit : Program → Valuation → Valuation → Type 0
AllFit P low high = (v : ℕ) → v < length P.variables → fits (variable_in P.variables v) (low v) (high v) ≡ true

-- an assignment lies inside the ranges
abbrev pub InsideRanges : Program → Valuation → Valuation → Valuation → Type 0
InsideRanges P low high θ = (v : ℕ) → v < length P.variables → T (le_z (low v) (θ v) && le_z (θ v) (high v))

-- each of the second ranges lies inside the first
abbrev pub Narrower : Program → Valuation → Valuation → Valuation → Valuation → Type 0
Narrower P low high low' high' = (v : ℕ) → v < length P.variables → T (le_z (low v) (low' v) && le_z (high' v) (high v))

-- the ranges with each founded far end drawn in to its bound in m
abbrev pub drawn_low : Program → Valuation → Valuation → Valuation
drawn_low P m low v = let x = variable_in P.variables v in swaps x (low v) (m v)

abbrev pub drawn_high : Program → Valuation → Valuation → Valuation
drawn_high P m high v = let x = variable_in P.variables v in cond (is_founded x) (swaps x (m v) (high v)) (high v)
