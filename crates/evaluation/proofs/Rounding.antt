-- The machine's quotients: they fit, and which of them is rounded up.
use Prim.Native.Nat.{ℕ, zero, suc, ◌-◌, ◌/◌, ◌^◌, ◌<◌, ◌≤◌}
use mathlib.Core.Path.{◌≡◌, refl, sym, ◌∙◌, subst}
use mathlib.Core.Bool.{true, false}
use native.Mathlib.Nat.{div-le_self}
use native.Mathlib.Omega.{arith}
use lib.Dec.{T}
use lib.IntN.{ℤ, pos, negsuc, neg_ℤ, nat_abs, ◌+ℤ◌, ◌-ℤ◌}
use lib.Signed.{◌≤ℤ◌, lt_z, quot_z}
use borrow.Author.Tests.{le-ltb}
use mir.Syntax.{w64}
use mir.Val.{SFits, of_z}
use Rattle.format.proofs.Int.{int, sum_is}
use Rattle.format.proofs.Ints.{sfits_abs}
use Rattle.program.specs.Evaluate.{over_up}

-- a quotient is no larger than what is divided
negated_size : (q : ℕ) → nat_abs (neg_ℤ (pos q)) ≡ q
negated_size zero = refl
negated_size (suc q) = refl

quotient_size : (a d : ℤ) → pos 1 ≤ℤ d → nat_abs (quot_z a d) ≤ nat_abs a
quotient_size (pos a) (pos n) h = div-le_self a n
quotient_size (negsuc a) (pos n) h = omega (arith, negated_size (suc a / n), div-le_self (suc a) n)
quotient_size a (negsuc n) h = let f : ⊥ = omega int in absurd f

pub quotient_fits : (a d : ℤ) → nat_abs a < 2 ^ 63 → pos 1 ≤ℤ d → SFits w64 (quot_z a d)
quotient_fits a d l h = sfits_abs (quot_z a d) (nat_abs a) (quotient_size a d h) l

pub divisor_bits : (d : ℤ) → pos 1 ≤ℤ d → 0 < of_z w64 d
divisor_bits (pos n) h = omega int
divisor_bits (negsuc n) h = let f : ⊥ = omega int in absurd f

-- the language rounds towards 0: up where the number is below 0, and else after one less than the divisor is added
pub over_up_below : (a d : ℤ) → pos 1 ≤ℤ d → lt_z a (pos 0) ≡ true → quot_z a d ≡ over_up d a
unfolding over_up
over_up_below (pos n) d h t = absurd (subst T (sym t ∙ le-ltb n 0 (omega arith)) tt)
over_up_below (negsuc n) (pos k) h t = refl
over_up_below (negsuc n) (negsuc k) h t = let f : ⊥ = omega int in absurd f

pub less_one : (d : ℤ) → pos 1 ≤ℤ d → d -ℤ pos 1 ≡ pos (nat_abs d - 1)
less_one (pos n) h = omega (int, sum_is (pos n) (negsuc 0))
less_one (negsuc n) h = let f : ⊥ = omega int in absurd f

pub over_up_natural : (a d : ℤ) → pos 1 ≤ℤ d → lt_z a (pos 0) ≡ false → quot_z (a +ℤ pos (nat_abs d - 1)) d ≡ over_up d a
unfolding over_up
over_up_natural (pos n) (pos k) h t = refl
over_up_natural (pos n) (negsuc k) h t = let f : ⊥ = omega int in absurd f
over_up_natural (negsuc n) d h t = let z : ◌≡◌ {A = ℕ} 0 1 = cc in absurd (omega arith)
