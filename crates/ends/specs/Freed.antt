-- Values on two sides with lent ranges, at the start: the heads of undecided rules have reached what lifts of them stop at.
use Rattle.std.specs.Prelude.{ℕ, ◌<◌, ◌≡◌, true, List, ℤ}
use Rattle.program.specs.Program.{Program, rule_in}
use Rattle.program.specs.Reading.{Accepts}
use Rattle.program.specs.Readings.{Valuation, valued}
use Rattle.meaning.specs.Reduct.{reckoned}
use Rattle.meaning.proofs.Theory.{Progress}
use Rattle.sided.specs.Reached.{risen, Sided}
use Rattle.run.specs.Running.{head_of}
use Rattle.lent.specs.Lent.{undecided, lent}
use Rattle.lent.proofs.Fits.{Fitting}
use Rattle.ends.specs.Ends.{other_ends, stop_ends}

-- the ranges fit the program that the file means
abbrev pub FitsRanges : List ℕ → Valuation → Valuation → Type 0
FitsRanges s low high = (P : Program) → Accepts s P → Fitting P low high

-- the list has what lifts stop at
abbrev pub AtStops : List ℕ → Valuation → Valuation → List ℤ → Type 0
AtStops s low high stops = (P : Program) → Accepts s P → (v : ℕ) → valued stops v ≡ stop_ends P.variables low high v

-- the values are on the way to the bounds, and the heads of those of the first n rules that are undecided have their stops
pub record Freed (P : Program) (low high : Valuation) (n : ℕ) (sides : List ℤ) : Type 0 where
  pub sided : Sided P.variables low (other_ends P.variables low high) sides
  pub progress : Progress (reckoned P (lent P low high)) low (risen P.variables sides)
  pub free : (i : ℕ) → i < n → undecided P.variables low high (rule_in P.rules i) ≡ true
      → risen P.variables sides (head_of P i) ≡ stop_ends P.variables low high (head_of P i)
