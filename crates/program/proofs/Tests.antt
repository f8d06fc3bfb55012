-- Tests as facts.
use mathlib.Core.Path.{◌≡◌, refl, sym, ◌∙◌}
use mathlib.Core.Bool.{Bool, true, false, not, ◌&&◌, true≢false}
use Prim.Native.Nat.{ℕ, zero, suc, ◌<◌}
use mathlib.Core.Logic.{◌⊎◌, inl, inr}
use native.Mathlib.Decide.{ℕ_discrete}
use native.Mathlib.Omega.{arith}
use lib.Dec.{T, eqb}
use borrow.Author.Tests.{eq-eqb, ne_eqb}
use Rattle.program.proofs.Conditions.{last_or}

-- a test's two ways, with what each leaves
pub cases {ℓ} : (b : Bool) (P : Bool → Type ℓ) → (T b → P true) → (T (not b) → P false) → P b
cases true P f g = f tt
cases false P f g = g tt

pub is_true : (b : Bool) → T b → b ≡ true
is_true true t = refl
is_true false t = absurd t

pub is_test : {b : Bool} → b ≡ true → T b
is_test e = rw e tt

pub and_left : (a b : Bool) → T (a && b) → T a
and_left true b t = tt
and_left false b t = t

pub and_right : (a b : Bool) → T (a && b) → T b
and_right true b t = t
and_right false b t = absurd t

pub and_both : (a b : Bool) → T a → T b → T (a && b)
and_both true b s t = t
and_both false b s t = s

-- whether two numbers are the same, either way round
pub eqb_swap : (a b : ℕ) → eqb a b ≡ eqb b a
eqb_swap a b = go (ℕ_discrete a b)
  where
    go : Dec (a ≡ b) → eqb a b ≡ eqb b a
    go (yes e) = eq-eqb a b e ∙ sym (eq-eqb b a (sym e))
    go (no f) = ne_eqb a b f ∙ sym (ne_eqb b a (λ e. f (sym e)))

-- ---- the first that fails

abbrev pub First : (ℕ → Type 0) → ℕ → Type 0
First Q i = (Q i → ⊥) × ((j : ℕ) → j < i → Q j)

first_more : (Q : ℕ → Type 0) (n : ℕ) → Dec (Q n) → ((i : ℕ) × (i < n) × First Q i) ⊎ ((i : ℕ) → i < n → Q i)
    → ((i : ℕ) × (i < suc n) × First Q i) ⊎ ((i : ℕ) → i < suc n → Q i)
first_more Q n d (inl f) = inl (f.0, omega (arith, f.1), f.2)
first_more Q n (yes q) (inr all) = inr (λ i h. last_or Q n i h (all i) q)
first_more Q n (no f) (inr all) = inl (n, omega arith, (f, all))

pub first_or_all : (Q : ℕ → Type 0) → ((i : ℕ) → Dec (Q i)) → (n : ℕ) → ((i : ℕ) × (i < n) × First Q i) ⊎ ((i : ℕ) → i < n → Q i)
first_or_all Q d zero = inr (λ i h. let f : ⊥ = omega arith in absurd f)
first_or_all Q d (suc n) = first_more Q n (d n) (first_or_all Q d n)

-- a test that must be true
pub is_it : (b : Bool) → Dec (b ≡ true)
is_it true = yes refl
is_it false = no (λ e. absurd (true≢false (sym e)))

pub not_it : (b : Bool) → (b ≡ true → ⊥) → b ≡ false
not_it true f = absurd (f refl)
not_it false f = refl
