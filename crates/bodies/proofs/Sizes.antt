-- Values by their size: what fits, and what the tests of a literal say.
use Prim.Native.Nat.{ℕ, suc, ◌+◌, ◌*◌, ◌^◌, ◌<◌}
use mathlib.Core.Path.{◌≡◌, refl, sym, ap, ◌∙◌, subst}
use mathlib.Core.Bool.{Bool, true, false, not, cond, ◌&&◌, ◌||◌, and-true}
use native.Mathlib.Nat.{zero-add}
use native.Mathlib.Omega.{arith}
use lib.Dec.{T, eqb}
use lib.IntN.{ℤ, pos, negsuc, nat_abs, ◌+ℤ◌, ◌-ℤ◌, ◌*ℤ◌}
use lib.Signed.{lt_z, le_z}
use borrow.Author.Tests.{le-ltb, eqb-true, not-true}
use mir.Syntax.{w64}
use mir.Val.{SFits}
use Rattle.format.proofs.Int.{int}
use Rattle.format.proofs.Ints.{abs_add, abs_mul_le, sfits_abs}
use Rattle.program.specs.Evaluate.{holds}
use Rattle.program.proofs.Tests.{cases, is_true}
use Rattle.program.specs.declared.Term.{Term}

pub sum_fits : (a b : ℤ) → nat_abs a + nat_abs b < 2 ^ 63 → SFits w64 (a +ℤ b)
sum_fits a b h = sfits_abs (a +ℤ b) (nat_abs a + nat_abs b) (abs_add a b) h

pub product_fits : (a b : ℤ) → nat_abs a * nat_abs b < 2 ^ 63 → SFits w64 (a *ℤ b)
product_fits a b h = sfits_abs (a *ℤ b) (nat_abs a * nat_abs b) (abs_mul_le a b (nat_abs a) (nat_abs b) (omega arith) (omega arith)) h

-- the absolute value, by the sign
pub size_negative : (a : ℤ) → lt_z a (pos 0) ≡ true → pos 0 -ℤ a ≡ pos (nat_abs a)
size_negative (pos n) t = absurd (subst T (sym t ∙ le-ltb n 0 (omega arith)) tt)
size_negative (negsuc n) t = ap pos (zero-add (suc n))

pub size_positive : (a : ℤ) → lt_z a (pos 0) ≡ false → a ≡ pos (nat_abs a)
size_positive (pos n) t = refl
size_positive (negsuc n) t = let z : ◌≡◌ {A = ℕ} 0 1 = cc in absurd (omega arith)

-- at least a number: not below it
least_is : (n a : ℤ) → not (lt_z a n) ≡ le_z n a
least_is n a = cases (lt_z a n) (λ c. not c ≡ le_z n a) (λ t. sym (not-true (le_z n a) (is_true (not (le_z n a)) (omega int)))) (λ t. sym (is_true (le_z n a) (omega int)))

-- the tests of a literal
pub literal_is : (t : Term) (a : ℤ) → ((not (eqb t.op 1) || not (lt_z a t.number)) && (not (eqb t.op 2) || lt_z a t.number)) ≡ holds t a
literal_is t a = go (eqb t.op 1) (eqb t.op 2) refl refl
  where
    n : ℤ
    n = t.number

    go : (one two : Bool) → eqb t.op 1 ≡ one → eqb t.op 2 ≡ two
        → ((not one || not (lt_z a n)) && (not two || lt_z a n)) ≡ cond one (le_z n a) (cond two (lt_z a n) true)
    go true true e f = let z : ⊥ = omega (arith, eqb-true t.op 1 e, eqb-true t.op 2 f) in absurd z
    go true false e f = and-true (not (lt_z a n)) ∙ least_is n a
    go false true e f = refl
    go false false e f = refl
