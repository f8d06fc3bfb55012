-- Laws of components as sets say them.
use Prim.Native.Nat.{ℕ, ◌+◌, ◌<◌, ◌≤◌}
use mathlib.Core.Path.{◌≡◌, refl, sym, ap₂, ◌∙◌}
use mathlib.Core.Logic.{◌≢◌, ◌⊎◌, inl, inr}
use mathlib.Core.Bool.{Bool, true, false, ◌&&◌}
use mathlib.Core.List.{List}
use native.Mathlib.Nat.{eq-or-lt_of_le, not-suc-le-zero}
use native.Mathlib.Omega.{arith}
use lib.ListN.{length, get_or, set, length-set}
use lib.Seq.{get_or-set_same, get_or-set_other}
use borrow.Author.Tests.{eq-eqb, ne_eqb}
use Rattle.sharing.specs.Sharing.{share_in, FirstSharing, Named}

module _ (t : ℕ → ℕ → Bool) (x y : ℕ) where
  pub share_same : x ≡ y → true ≡ share_in t x y
  unfolding share_in
  share_same e = rw (eq-eqb x y e)

  pub share_other : x ≢ y → {there back : Bool} → there ≡ t x y → back ≡ t y x → (there && back) ≡ share_in t x y
  unfolding share_in
  share_other f p q = rw (ne_eqb x y f) (ap₂ ◌&&◌ p q)

-- x shares its own component
pub share_self : (t : ℕ → ℕ → Bool) (x : ℕ) → share_in t x x ≡ true
share_self t x = sym (share_same t x x refl)

-- ---- the first variable of a component

-- those below y do not share x's
pub record NoneBefore (t : ℕ → ℕ → Bool) (x y : ℕ) : Type 0 where
  pub none : (z : ℕ) → z < y → share_in t x z ≡ false

module _ {t : ℕ → ℕ → Bool} {x y : ℕ} where
  pub before_more : NoneBefore t x y → {f : Bool} → f ≡ share_in t x y → f ≡ false → NoneBefore t x (y + 1)
  before_more h e q = record { none = λ z l. go z l (eq-or-lt_of_le (omega arith)) }
    where
      go : (z : ℕ) → z < y + 1 → (z ≡ y) ⊎ (z < y) → share_in t x z ≡ false
      go z l (inl p) = rw p (sym e ∙ q)
      go z l (inr m) = h.none z m

  pub first_found : NoneBefore t x y → {f : Bool} → f ≡ share_in t x y → f ≡ true → FirstSharing t x y
  first_found h e q = record { shares = sym e ∙ q; first = h.none }

  -- none before x: x itself
  pub first_itself : NoneBefore t x y → x ≡ y → FirstSharing t x x
  first_itself h e = record { shares = share_self t x; first = rw (← e) at h.none }

-- ---- a byte for each variable

module _ (t : ℕ → ℕ → Bool) (b : List ℕ) where
  pub named_none : Named t 0 b b
  named_none = record { long = refl; is = λ x l. absurd (not-suc-le-zero l); rest = λ x l. refl }

  pub named_more : {b' : List ℕ} (x y : ℕ) → Named t x b b' → x < length b → FirstSharing t x y → Named t (x + 1) b (set b' x y)
  named_more {b'} x y n l f = record { long = length-set b' x y ∙ n.long; is = λ z m. go z (eq-or-lt_of_le (omega arith)); rest = rest }
    where
      go : (z : ℕ) → (z ≡ x) ⊎ (z < x) → FirstSharing t z (get_or (set b' x y) z 0)
      go z (inl p) = rw (p, get_or-set_same b' x y 0 (omega (arith, n.long))) f
      go z (inr m) = rw (get_or-set_other b' x z y 0 (omega arith)) (n.is z m)

      rest : (z : ℕ) → x + 1 ≤ z → get_or (set b' x y) z 0 ≡ get_or b z 0
      rest z m = get_or-set_other b' x z y 0 (omega arith) ∙ n.rest z (omega arith)
