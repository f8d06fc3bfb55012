-- What a rule gives with lent ranges: nothing past its head's far end; and a single range is read at its value.
use Rattle.std.specs.Prelude.{Some}
use mathlib.Core.Path.{◌≡◌, subst}
use mathlib.Core.List.{List}
use lib.Dec.{T}
use lib.IntN.{ℤ}
use lib.Signed.{≤ℤ_refl}
use Rattle.format.proofs.Int.{int}
use Rattle.program.specs.Program.{Rule, variable_in}
use Rattle.program.specs.Variables.{far, not_past}
use Rattle.program.specs.Readings.{Valuation}
use Rattle.program.specs.Idle.{demanding}
use Rattle.program.specs.declared.Direction.{Direction}
use Rattle.program.specs.declared.Variable.{Variable}
use Rattle.program.proofs.IdleRules.{demanding_held}
use Rattle.program.proofs.Monotone.{Under}
use Rattle.lent.specs.Lent.{lent_in, lent_gives}
use Rattle.lent.proofs.Fits.{lent_past, lent_far}
use Rattle.lent.proofs.LentLaws.{head_far, lent_end}

-- the end of a single range that demands most is its value
pub demanding_single : (h : Variable) (d : Direction) (a : ℤ) → demanding h d a a ≡ a
demanding_single h d a = let b = demanding_held h d (≤ℤ_refl a) in omega (int, b.low, b.high)

-- what is given is not past the head's far end
pub lent_given_end : (vs : List Variable) (low high : Valuation) (r : Rule) (m : Valuation) (a : ℤ) → lent_gives vs low high r m ≡ Some a
    → let x = lent_in vs low high r.head in T (not_past x a (far x))
lent_given_end vs low high r m a e =
    let h = r.head in
    rw (lent_past (variable_in vs h) (low h) (high h), lent_far (variable_in vs h) (low h) (high h))
    (subst (λ g. Under (variable_in vs h) g (Some (head_far vs low high r))) e (lent_end vs low high r m))
