-- Readings by their size, and one more position of a body.
use Prim.Native.Nat.{ℕ, zero, suc, ◌+◌, ◌-◌, ◌*◌, ◌^◌, ◌<◌, ◌≤◌}
use mathlib.Core.Path.{◌≡◌, refl, sym, ap, ◌∙◌, subst}
use mathlib.Core.List.{List}
use mathlib.Core.Bool.{Bool, true, false, not, cond, ◌&&◌, ◌||◌, or-false, and-false}
use native.Mathlib.Nat.{mul-le-mul, lt_of_le_of_lt}
use native.Mathlib.Numerals.{add-one}
use native.Mathlib.Omega.{arith}
use lib.Dec.{lit<, eqb}
use borrow.Author.Tests.{eqb-true, eqb-false}
use mathlib.Core.Logic.{◌≢◌}
use lib.IntN.{ℤ, pos, nat_abs, ◌+ℤ◌, ◌*ℤ◌}
use lib.Signed.{lt_z}
use lib.ListN.{length, get_or}
use Rattle.format.specs.Limits.{max_number, max_coefficient}
use Rattle.format.proofs.Ints.{abs_add, abs_mul_le}
use Rattle.program.specs.Program.{term_in}
use Rattle.program.specs.Evaluate.{sum_below, larger, smaller, pick_to, largest_to, smallest_to, holds, all_hold}
use Rattle.words.specs.Bit.{bit}
use Rattle.bodies.specs.Readings.{read_at, reading_of, extreme, weighted}
use Rattle.program.specs.declared.Term.{Term}
use Rattle.program.specs.Evaluable.{Small, Coefficients}

-- ---- readings

module _ (kept : ℕ) (first second : List ℤ) where
  pub read_first : (i x : ℕ) → bit kept i ≡ true → get_or first x (pos 0) ≡ read_at kept first second i x
  read_first i x h = simp h

  pub read_second : (i x : ℕ) → bit kept i ≡ false → get_or second x (pos 0) ≡ read_at kept first second i x
  read_second i x h = simp h

  module _ (ts : List Term) (i : ℕ) where
    -- the variable of term i, read at position i
    pub reading_is : {x : ℕ} {v w : ℤ} → w ≡ v → v ≡ read_at kept first second i x → x ≡ (term_in ts i).variable → w ≡ reading_of kept first second ts i
    unfolding reading_of
    reading_is p q e = p ∙ q ∙ ap (read_at kept first second i) e

    pub reading_small : Small first → Small second → nat_abs (reading_of kept first second ts i) ≤ max_number
    unfolding reading_of
    reading_small h k = go (bit kept i)
      where
        x : ℕ
        x = (term_in ts i).variable

        go : (t : Bool) → nat_abs (cond t (get_or first x (pos 0)) (get_or second x (pos 0))) ≤ max_number
        go true = h x
        go false = k x

-- ---- what fits

product_below : {a b m n : ℕ} → a ≤ m → b ≤ n → m * n < 2 ^ 63 → a * b < 2 ^ 63
product_below h k l = lt_of_le_of_lt (mul-le-mul h k) l

module _ (kept : ℕ) (first second : List ℤ) (ts : List Term) where
  pub weigh_fits : (i : ℕ) {n v : ℤ} → n ≡ (term_in ts i).number → v ≡ reading_of kept first second ts i
      → nat_abs (term_in ts i).number ≤ max_coefficient → Small first → Small second → nat_abs n * nat_abs v < 2 ^ 63
  weigh_fits i e f w h k = rw (e, f) (product_below w (reading_small kept first second ts i h k) (lit< tt))

  pub product_fit : (i j : ℕ) {a b : ℤ} → a ≡ reading_of kept first second ts i → b ≡ reading_of kept first second ts j
      → Small first → Small second → nat_abs a * nat_abs b < 2 ^ 63
  product_fit i j e f h k = rw (e, f) (product_below (reading_small kept first second ts i h k) (reading_small kept first second ts j h k) (lit< tt))

pub product_small : (a b : ℤ) → nat_abs a ≤ max_number → nat_abs b ≤ max_number → nat_abs (a *ℤ b) ≤ max_number * max_number
product_small a b h k = abs_mul_le a b max_number max_number h k

-- ---- sums

pub sum_none : (f : ℕ → ℤ) → pos 0 ≡ sum_below f 0
unfolding sum_below
sum_none f = refl

pub sum_more : (f : ℕ → ℤ) (n : ℕ) → sum_below f n +ℤ f n ≡ sum_below f (n + 1)
unfolding sum_below
sum_more f n = rw add-one

pub sum_small : (f : ℕ → ℤ) (m n : ℕ) → ((i : ℕ) → i < n → nat_abs (f i) ≤ m) → nat_abs (sum_below f n) ≤ n * m
unfolding sum_below
sum_small f m zero h = omega arith
sum_small f m (suc n) h =
    let a = sum_small f m n (λ i l. h i (omega arith)) in
    let b : nat_abs (f n) ≤ m = h n (omega arith) in
    omega (arith, abs_add (sum_below f n) (f n))

module _ (kept : ℕ) (first second : List ℤ) (ts : List Term) (w : Coefficients ts) (h : Small first) (k : Small second) where
  pub weighted_small : (i : ℕ) → i < length ts → nat_abs (weighted ts (reading_of kept first second ts) i) ≤ max_coefficient * max_number
  weighted_small i l = abs_mul_le (term_in ts i).number (reading_of kept first second ts i) max_coefficient max_number (w i l) (reading_small kept first second ts i h k)

  pub total_small : (n : ℕ) → n ≤ length ts → nat_abs (sum_below (weighted ts (reading_of kept first second ts)) n) ≤ n * (max_coefficient * max_number)
  total_small n l = sum_small (weighted ts (reading_of kept first second ts)) (max_coefficient * max_number) n (λ i m. weighted_small i (omega arith))

-- ---- the largest and the smallest

picked_small : (t : Bool) (a b : ℤ) {m : ℕ} → nat_abs a ≤ m → nat_abs b ≤ m → nat_abs (cond t b a) ≤ m
picked_small true a b h k = k
picked_small false a b h k = h

-- the second of two is taken where the machine's test holds
pub extreme_is : (most : Bool) (a b : ℤ) {t : Bool} → ((most && lt_z a b) || (not most && lt_z b a)) ≡ t → cond t b a ≡ extreme most a b
extreme_is true a b e = ap (λ (s : Bool). cond s b a) (sym e ∙ or-false (lt_z a b))
extreme_is false a b e = ap (λ (s : Bool). cond s b a) (sym e)

-- the position before i, and i
one_before : (i : ℕ) → 1 ≤ i → (i ≡ suc (i - 1)) × (suc (i - 1) ≡ i + 1 - 1)
one_before i h = (omega arith, omega arith)

module _ (pick : ℤ → ℤ → ℤ) (f : ℕ → ℤ) where
  pub pick_one : f 0 ≡ pick_to pick f 0
  unfolding pick_to
  pick_one = refl

  pub pick_more : (i : ℕ) → 1 ≤ i → pick (pick_to pick f (i - 1)) (f i) ≡ pick_to pick f (i + 1 - 1)
  unfolding pick_to
  pick_more i h = ap (λ (n : ℕ). pick (pick_to pick f (i - 1)) (f n)) (one_before i h).0 ∙ ap (pick_to pick f) (one_before i h).1

  pick_small : (m : ℕ) → ((a b : ℤ) → nat_abs a ≤ m → nat_abs b ≤ m → nat_abs (pick a b) ≤ m) → ((i : ℕ) → nat_abs (f i) ≤ m)
      → (n : ℕ) → nat_abs (pick_to pick f n) ≤ m
  unfolding pick_to
  pick_small m p h zero = h 0
  pick_small m p h (suc n) = p (pick_to pick f n) (f (suc n)) (pick_small m p h n) (h (suc n))

module _ (f : ℕ → ℤ) (m : ℕ) (h : (i : ℕ) → nat_abs (f i) ≤ m) where
  pub largest_small : (n : ℕ) → nat_abs (largest_to f n) ≤ m
  largest_small = pick_small larger f m (λ a b. picked_small (lt_z a b) a b) h

  pub smallest_small : (n : ℕ) → nat_abs (smallest_to f n) ≤ m
  smallest_small = pick_small smaller f m (λ a b. picked_small (lt_z b a) a b) h

-- ---- literals

pub hold_none : (ts : List Term) (at : ℕ → ℤ) → true ≡ all_hold ts at 0
unfolding all_hold
hold_none ts at = refl

pub hold_more : (ts : List Term) (at : ℕ → ℤ) (n : ℕ) → (all_hold ts at n && holds (term_in ts n) (at n)) ≡ all_hold ts at (n + 1)
unfolding all_hold
hold_more ts at n = rw add-one

pub hold_fails : (ts : List Term) (at : ℕ → ℤ) (i n : ℕ) → i < n → holds (term_in ts i) (at i) ≡ false → all_hold ts at n ≡ false
unfolding all_hold
hold_fails ts at i zero h e = let f : ⊥ = omega arith in absurd f
hold_fails ts at i (suc n) h e = go (λ l. hold_fails ts at i n l e) (eqb i n) refl
  where
    go : (i < n → all_hold ts at n ≡ false) → (t : Bool) → eqb i n ≡ t → (all_hold ts at n && holds (term_in ts n) (at n)) ≡ false
    go before true q =
        let k : i ≡ n = eqb-true i n q in
        let f : holds (term_in ts n) (at n) ≡ false = subst (λ j. holds (term_in ts j) (at j) ≡ false) k e in
        rw f (and-false (all_hold ts at n))
    go before false q = let l : i ≢ n = eqb-false i n q in rw (before (omega arith)) refl
