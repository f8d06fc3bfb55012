-- The ranges of the variables and their ends, one variable after the other.
use Prim.Native.Nat.{ℕ}
use mathlib.Core.Path.{◌≡◌}
use mathlib.Core.Logic.{◌≢◌}
use mathlib.Core.List.{List}
use mathlib.Core.Bool.{true, false}
use borrow.Author.Tests.{eq-eqb, ne_eqb}
use lib.IntN.{ℤ}
use Rattle.program.specs.Program.{variable_in}
use Rattle.program.specs.Variables.{from_above}
use Rattle.program.specs.Readings.{Valuation}
use Rattle.program.specs.declared.Variable.{Variable}
use Rattle.program.proofs.Variables.{swaps_so, swaps_not}
use Rattle.lent.specs.Ranges.{fits}
use Rattle.ends.specs.Ends.{other_end, other_ends, stop_end, stop_ends}

-- ---- each way of a test is a case of the definition

module _ (x : Variable) (low high : ℤ) where
  pub other_low : x.kind ≡ 1 → low ≡ other_end x low high
  unfolding other_end
  other_low h = rw (eq-eqb x.kind 1 h)

  pub other_high : x.kind ≢ 1 → high ≡ other_end x low high
  unfolding other_end
  other_high h = rw (ne_eqb x.kind 1 h)

  pub stop_low : from_above x ≡ true → low ≡ stop_end x low high
  unfolding stop_end
  stop_low = swaps_so x high low

  pub stop_high : from_above x ≡ false → high ≡ stop_end x low high
  unfolding stop_end
  stop_high = swaps_not x high low

-- ---- the record that was read is that of the variable, and so are the ends of its range

module _ (vs : List Variable) (low high : Valuation) (v : ℕ) {x : Variable} {a b : ℤ} where
  pub fits_variable : x ≡ variable_in vs v → a ≡ low v → b ≡ high v → fits x a b ≡ fits (variable_in vs v) (low v) (high v)
  fits_variable p d e = rw (p, d, e)

  pub other_variable : x ≡ variable_in vs v → a ≡ low v → b ≡ high v → other_end x a b ≡ other_ends vs low high v
  other_variable p d e = rw (p, d, e)

  pub stop_variable : x ≡ variable_in vs v → a ≡ low v → b ≡ high v → stop_end x a b ≡ stop_ends vs low high v
  stop_variable p d e = rw (p, d, e)
