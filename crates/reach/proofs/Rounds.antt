-- A round, row by row: the rows below i have taken in row k where they have k, and the others are as they were.
use mathlib.Core.Path.{◌≡◌, refl, sym, ap, ap₂, ◌∙◌}
use mathlib.Core.Logic.{◌≢◌}
use mathlib.Core.Bool.{Bool, true, false, ◌||◌, ◌&&◌, or-false}
use Prim.Native.Nat.{ℕ, ◌+◌, ◌<◌}
use native.Mathlib.Decide.{ℕ_discrete, dec_lt}
use native.Mathlib.Omega.{arith}
use lib.Dec.{ltb}
use borrow.Author.Tests.{eq-eqb, ne_eqb, lt-ltb, le-ltb}
use Rattle.format.specs.Limits.{max_variables}
use Rattle.reach.specs.Rows.{Joined}

-- s is r where the rows below i have had their part of the round of k
pub record Upto (r s : ℕ → ℕ → Bool) (k i : ℕ) : Type 0 where
  pub is : (a b : ℕ) → b < max_variables → s a b ≡ (r a b || (ltb a i && (r a k && r k b)))

absorb : (x t y : Bool) → (x || (t && (y && x))) ≡ x
absorb true t y = refl
absorb false true true = refl
absorb false true false = refl
absorb false false y = refl

pub upto_none : (r : ℕ → ℕ → Bool) (k : ℕ) → Upto r r k 0
upto_none r k = record {
  is = λ a b hb. sym (or-false (r a b)) ∙ ap (λ (t : Bool). r a b || (t && (r a k && r k b))) (sym (le-ltb a 0 (omega arith)));
}

other : (a i : ℕ) → a ≢ i → Dec (a < i) → ltb a (i + 1) ≡ ltb a i
other a i f (yes p) = lt-ltb a (i + 1) (omega arith) ∙ sym (lt-ltb a i p)
other a i f (no g) = le-ltb a (i + 1) (omega arith) ∙ sym (le-ltb a i (omega arith))

module _ {r s : ℕ → ℕ → Bool} (s' : ℕ → ℕ → Bool) {k i : ℕ} (hk : k < max_variables) (u : Upto r s k i) where
  -- row i is as it was, and so is row k
  row_i : (b : ℕ) → b < max_variables → s i b ≡ r i b
  row_i b hb = u.is i b hb ∙ ap (λ (t : Bool). r i b || (t && (r i k && r k b))) (le-ltb i i (omega arith)) ∙ or-false (r i b)

  row_k : (b : ℕ) → b < max_variables → s k b ≡ r k b
  row_k b hb = u.is k b hb ∙ absorb (r k b) (ltb k i) (r k k)

  rest : (a b : ℕ) → b < max_variables → a ≢ i → s' a b ≡ s a b → s' a b ≡ (r a b || (ltb a (i + 1) && (r a k && r k b)))
  rest a b hb f p = p ∙ u.is a b hb ∙ ap (λ (t : Bool). r a b || (t && (r a k && r k b))) (sym (other a i f (dec_lt a i)))

  this : (a b : ℕ) → a ≡ i → (x : Bool) → r i k ≡ x → s' i b ≡ (r i b || (x && r k b))
      → s' a b ≡ (r a b || (ltb a (i + 1) && (r a k && r k b)))
  this a b e x p q =
      ap (λ (z : ℕ). s' z b) e ∙ q ∙ ap (λ (y : Bool). r i b || (y && r k b)) (sym p)
      ∙ ap (λ (t : Bool). r i b || (t && (r i k && r k b))) (sym (lt-ltb i (i + 1) (omega arith)))
      ∙ ap (λ (z : ℕ). r z b || (ltb z (i + 1) && (r z k && r k b))) (sym e)

  pub upto_joined : s i k ≡ true → Joined s s' i k → Upto r s' k (i + 1)
  upto_joined t j = record { is = λ a b hb. go a b hb (ℕ_discrete a i) }
    where
      go : (a b : ℕ) → b < max_variables → Dec (a ≡ i) → s' a b ≡ (r a b || (ltb a (i + 1) && (r a k && r k b)))
      go a b hb (yes e) =
          this a b e true (sym (row_i k hk) ∙ t)
          (j.is i b hb ∙ ap (λ (x : Bool). s i b || (x && s k b)) (eq-eqb i i refl) ∙ ap₂ ◌||◌ (row_i b hb) (row_k b hb))
      go a b hb (no f) = rest a b hb f (j.is a b hb ∙ ap (λ (x : Bool). s a b || (x && s k b)) (ne_eqb a i f) ∙ or-false (s a b))

  pub upto_left : s i k ≡ false → ((a b : ℕ) → s' a b ≡ s a b) → Upto r s' k (i + 1)
  upto_left t j = record { is = λ a b hb. go a b hb (ℕ_discrete a i) }
    where
      go : (a b : ℕ) → b < max_variables → Dec (a ≡ i) → s' a b ≡ (r a b || (ltb a (i + 1) && (r a k && r k b)))
      go a b hb (yes e) = this a b e false (sym (row_i k hk) ∙ t) (j i b ∙ row_i b hb ∙ sym (or-false (r i b)))
      go a b hb (no f) = rest a b hb f (j a b)
