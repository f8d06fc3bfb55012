-- Sets that take in a variable where a test holds.
use Prim.Native.Nat.{ℕ, ◌+◌, ◌<◌}
use mathlib.Core.Path.{◌≡◌, sym, ap, ap₂, ◌∙◌}
use mathlib.Core.Bool.{Bool, true, false, ◌||◌, ◌&&◌, or-false, or_comm, and-true, and-false}
use native.Mathlib.Decide.{ℕ_discrete, dec_lt}
use native.Mathlib.Omega.{arith}
use lib.Dec.{eqb, ltb}
use borrow.Author.Tests.{eq-eqb, ne_eqb, lt-ltb, le-ltb}
use Rattle.program.proofs.Tests.{eqb_swap}

module _ {b : Bool} (x : ℕ) (old : ℕ → Bool) where
  pub with_one : {new : ℕ → Bool} → b ≡ true → ((v : ℕ) → new v ≡ (eqb v x || old v)) → (v : ℕ) → new v ≡ (old v || (b && eqb x v))
  with_one e h v = h v ∙ or_comm (eqb v x) (old v) ∙ ap₂ (λ (s t : Bool). old v || (s && t)) (sym e) (eqb_swap v x)

  pub with_none : b ≡ false → (v : ℕ) → old v ≡ (old v || (b && eqb x v))
  with_none e v = sym (ap (λ (s : Bool). old v || (s && eqb x v)) e ∙ or-false (old v))

-- the members below a bound, one more at a time
module _ (p : ℕ → Bool) where
  pub below_none : {new : ℕ → Bool} → ((v : ℕ) → new v ≡ false) → (v : ℕ) → new v ≡ (ltb v 0 && p v)
  below_none h v = h v ∙ ap (λ (s : Bool). s && p v) (sym (le-ltb v 0 (omega arith)))

  pub below_one : (n : ℕ) {b : Bool} {old new : ℕ → Bool} → b ≡ p n → ((v : ℕ) → old v ≡ (ltb v n && p v)) → ((v : ℕ) → new v ≡ (old v || (b && eqb n v)))
      → (v : ℕ) → new v ≡ (ltb v (n + 1) && p v)
  below_one n {b} e h g v = g v ∙ ap₂ (λ (s t : Bool). s || (t && eqb n v)) (h v) e ∙ go (ℕ_discrete n v)
    where
      less : Dec (v < n) → (n ≡ v → ⊥) → ltb v n ≡ ltb v (n + 1)
      less (yes l) f = lt-ltb v n l ∙ sym (lt-ltb v (n + 1) (omega arith))
      less (no l) f = le-ltb v n (omega arith) ∙ sym (le-ltb v (n + 1) (omega arith))

      go : Dec (n ≡ v) → ((ltb v n && p v) || (p n && eqb n v)) ≡ (ltb v (n + 1) && p v)
      go (yes q) =
          ap₂ (λ (s t : Bool). (s && p v) || (p n && t)) (le-ltb v n (omega arith)) (eq-eqb n v q) ∙ and-true (p n) ∙ ap p q
          ∙ sym (ap (λ (s : Bool). s && p v) (lt-ltb v (n + 1) (omega arith)))
      go (no f) =
          ap₂ (λ (s t : Bool). (s && p v) || (p n && t)) (less (dec_lt v n) f) (ne_eqb n v f)
          ∙ ap (λ (s : Bool). (ltb v (n + 1) && p v) || s) (and-false (p n)) ∙ or-false (ltb v (n + 1) && p v)
