-- Conditions that are not met, one by one.
use Prim.Native.Nat.{ℕ, zero, suc, ◌+◌, ◌<◌}
use mathlib.Core.Path.{◌≡◌, refl, ap₂}
use mathlib.Core.List.{List, ◌∷◌}
use mathlib.Core.Logic.{◌≢◌}
use mathlib.Core.Bool.{Bool, true, false, ◌||◌, ◌&&◌}
use native.Mathlib.Numerals.{add-one}
use native.Mathlib.Omega.{arith}
use lib.Dec.{eqb}
use borrow.Author.Tests.{eqb-true, eqb-false}
use Rattle.program.specs.Tables.{Condition, ◌when◌, first_of, any_below}

-- no test is both
pub never : {b : Bool} → b ≡ true → b ≡ false → ⊥
never h k = let z : ◌≡◌ {A = ℕ} 0 1 = cc in omega arith

pub neither : (a b : Bool) → (a || b) ≡ false → (a ≡ false) × (b ≡ false)
neither true b h = absurd (never refl h)
neither false b h = (refl, h)

pub both : (a b : Bool) → (a && b) ≡ true → (a ≡ true) × (b ≡ true)
both true b h = (refl, h)
both false b h = absurd (never h refl)

-- a list of conditions of which none is met
pub none_first : (n : ℕ) (b : Bool) (rest : List Condition) → first_of ((suc n when b) ∷ rest) ≡ 0 → (b ≡ false) × (first_of rest ≡ 0)
none_first n true rest h = let f : ⊥ = omega arith in absurd f
none_first n false rest h = (refl, h)

-- a number up to n is n or below it
pub last_or : (P : ℕ → Type 0) (n i : ℕ) → i < suc n → (i < n → P i) → P n → P i
last_or P n i h before last = go (eqb i n) refl
  where
    go : (t : Bool) → eqb i n ≡ t → P i
    go true e = rw (eqb-true i n e) last
    go false e = let k : i ≢ n = eqb-false i n e in before (omega arith)

-- no number below n has the property
pub none_below : (n : ℕ) (p : ℕ → Bool) → any_below n p ≡ false → (i : ℕ) → i < n → p i ≡ false
unfolding any_below
none_below zero p h i k = let f : ⊥ = omega arith in absurd f
none_below (suc n) p h i k =
    let e = neither (any_below n p) (p n) h in
    last_or (λ x. p x ≡ false) n i k (none_below n p e.0 i) e.1

pub below_none : (n : ℕ) (p : ℕ → Bool) → ((i : ℕ) → i < n → p i ≡ false) → any_below n p ≡ false
unfolding any_below
below_none zero p h = refl
below_none (suc n) p h = rw (below_none n p (λ i k. h i (omega arith))) (h n (omega arith))

-- some number below n has it
pub some_below : (n : ℕ) (p : ℕ → Bool) → any_below n p ≡ true → (i : ℕ) × (i < n) × (p i ≡ true)
unfolding any_below
some_below zero p h = absurd (never h refl)
some_below (suc n) p h = go (some_below n p) (any_below n p) refl h
  where
    go : (any_below n p ≡ true → (i : ℕ) × (i < n) × (p i ≡ true)) → (t : Bool) → any_below n p ≡ t → (t || p n) ≡ true → (i : ℕ) × (i < suc n) × (p i ≡ true)
    go earlier true e q = let r = earlier e in (r.0, omega arith, r.2)
    go earlier false e q = (n, omega arith, q)

pub below_some : (n : ℕ) (p : ℕ → Bool) (i : ℕ) → i < n → p i ≡ true → any_below n p ≡ true
below_some n p i h e = go (any_below n p) refl
  where
    go : (t : Bool) → any_below n p ≡ t → t ≡ true
    go true q = refl
    go false q = absurd (never e (none_below n p q i h))

pub any_same : (n : ℕ) (p q : ℕ → Bool) → ((i : ℕ) → i < n → p i ≡ q i) → any_below n p ≡ any_below n q
unfolding any_below
any_same zero p q h = refl
any_same (suc n) p q h = ap₂ ◌||◌ (any_same n p q (λ i l. h i (omega arith))) (h n (omega arith))

pub any_next : (n : ℕ) (p : ℕ → Bool) → any_below (n + 1) p ≡ (any_below n p || p n)
unfolding any_below
any_next n p = rw add-one

-- a loop over the numbers below a bound, from its start and by one turn more
pub any_none : (p : ℕ → Bool) → false ≡ any_below 0 p
unfolding any_below
any_none p = refl

pub any_more : (n : ℕ) (p : ℕ → Bool) (f b : Bool) → f ≡ any_below n p → b ≡ p n → (f || b) ≡ any_below (n + 1) p
any_more n p f b e q = rw (any_next n p, e, q)
