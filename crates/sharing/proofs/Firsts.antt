-- The first variable of a component, as sets say it: there is one, and where the sets are transitive it names the component.
use Prim.Native.Nat.{ℕ, zero, suc, ◌<◌, ◌≤◌}
use mathlib.Core.Path.{◌≡◌, refl, sym, ◌∙◌, subst}
use mathlib.Core.Logic.{◌↔◌, ◌⊎◌, inl, inr}
use mathlib.Core.Bool.{Bool, true, false, ◌||◌, ◌&&◌, or-true, true≢false}
use native.Mathlib.Nat.{not-suc-le-zero}
use native.Mathlib.Numerals.{add-one}
use native.Mathlib.Omega.{arith}
use lib.Dec.{eqb}
use borrow.Author.Tests.{eqb-true}
use Rattle.sharing.specs.Sharing.{share_in, FirstSharing}
use Rattle.sharing.proofs.Sharings.{share_same, share_self, NoneBefore, before_more, first_found, first_itself}

same_test : {a : Bool} → a ≡ true → a ≡ false → ⊥
same_test p q = true≢false (sym p ∙ q)

-- ---- sharing, told and tested

abbrev pub SharesIn : (ℕ → ℕ → Bool) → ℕ → ℕ → Type 0
SharesIn t x y = (x ≡ y) ⊎ ((t x y ≡ true) × (t y x ≡ true))

module _ (t : ℕ → ℕ → Bool) (x y : ℕ) where
  pub shares_told : share_in t x y ≡ true → SharesIn t x y
  unfolding share_in
  shares_told = go (eqb x y) refl (t x y) refl (t y x) refl
    where
      go : (a : Bool) → eqb x y ≡ a → (b : Bool) → t x y ≡ b → (c : Bool) → t y x ≡ c → (a || (b && c)) ≡ true → SharesIn t x y
      go true p b q c r h = inl (eqb-true x y p)
      go false p true q true r h = inr (q, r)
      go false p true q false r h = absurd (true≢false (sym h))
      go false p false q c r h = absurd (true≢false (sym h))

  pub shares_tested : SharesIn t x y → share_in t x y ≡ true
  unfolding share_in
  shares_tested (inl e) = sym (share_same t x y e)
  shares_tested (inr r) = rw (r.0, r.1) (or-true (eqb x y))

-- ---- there is one first variable

module _ {t : ℕ → ℕ → Bool} {x : ℕ} where
  not_before : {a b : ℕ} → FirstSharing t x a → FirstSharing t x b → a < b → ⊥
  not_before {a} f g h = same_test f.shares (g.first a h)

  pub first_sharing_unique : {a b : ℕ} → FirstSharing t x a → FirstSharing t x b → a ≡ b
  first_sharing_unique {a} {b} f g = omega (arith, not_before f g, not_before g f)

  pub first_least : {a : ℕ} → FirstSharing t x a → a ≤ x
  first_least {a} f = by (λ h. same_test (share_self t x) (f.first x h))
    where
      by : (x < a → ⊥) → a ≤ x
      by g = omega arith

module _ (t : ℕ → ℕ → Bool) (x : ℕ) where
  -- among the first n
  first_below : (n : ℕ) → ((y : ℕ) × FirstSharing t x y) ⊎ NoneBefore t x n
  first_below zero = inr (record { none = λ z h. absurd (not-suc-le-zero h) })
  first_below (suc n) = go (first_below n) (share_in t x n) refl
    where
      go : ((y : ℕ) × FirstSharing t x y) ⊎ NoneBefore t x n → (b : Bool) → share_in t x n ≡ b → ((y : ℕ) × FirstSharing t x y) ⊎ NoneBefore t x (suc n)
      go (inl f) b e = inl f
      go (inr h) true e = inl (n, first_found h (sym e) refl)
      go (inr h) false e = inr (subst (NoneBefore t x) (add-one n) (before_more h (sym e) refl))

  pub first_sharing : (y : ℕ) × FirstSharing t x y
  first_sharing = go (first_below x)
    where
      go : ((y : ℕ) × FirstSharing t x y) ⊎ NoneBefore t x x → (y : ℕ) × FirstSharing t x y
      go (inl f) = f
      go (inr h) = (x, first_itself h refl)

-- ---- it names the component

-- what is reached from what is reached is reached, among the first n
pub record Transitive (t : ℕ → ℕ → Bool) (n : ℕ) : Type 0 where
  pub over : (i m j : ℕ) → i < n → m < n → j < n → t i m ≡ true → t m j ≡ true → t i j ≡ true

pub share_swap : (t : ℕ → ℕ → Bool) (x y : ℕ) → share_in t x y ≡ true → share_in t y x ≡ true
share_swap t x y h = go (shares_told t x y h)
  where
    go : SharesIn t x y → share_in t y x ≡ true
    go (inl e) = shares_tested t y x (inl (sym e))
    go (inr r) = shares_tested t y x (inr (r.1, r.0))

module _ {t : ℕ → ℕ → Bool} {n : ℕ} (tr : Transitive t n) where
  pub share_over : (x y z : ℕ) → x < n → y < n → z < n → share_in t x y ≡ true → share_in t y z ≡ true → share_in t x z ≡ true
  share_over x y z hx hy hz p q = go (shares_told t x y p) (shares_told t y z q)
    where
      go : SharesIn t x y → SharesIn t y z → share_in t x z ≡ true
      go (inl e) s = rw e q
      go (inr r) (inl f) = rw (← f) p
      go (inr r) (inr s) = shares_tested t x z (inr (tr.over x y z hx hy hz r.0 s.0, tr.over z y x hz hy hx s.1 r.1))

  -- a variable that shares its component with another has no later first one
  no_later : {x y a b : ℕ} → x < n → y < n → FirstSharing t x a → FirstSharing t y b → share_in t x y ≡ true → a < b → ⊥
  no_later {x} {y} {a} hx hy f g h l =
      same_test (share_over y x a hy hx (omega (arith, first_least f)) (share_swap t x y h) f.shares) (g.first a l)

  -- two variables have one first variable exactly where they share a component
  pub first_names : {x y a b : ℕ} → x < n → y < n → FirstSharing t x a → FirstSharing t y b → (a ≡ b) ↔ (share_in t x y ≡ true)
  first_names {x} {y} {a} {b} hx hy f g = (
    λ e. share_over x a y hx (omega (arith, first_least f)) hy f.shares (share_swap t y a (rw e g.shares)),
    λ h. omega (arith, no_later hx hy f g h, no_later hy hx g f (share_swap t x y h)),
  )
