-- Wrong sets, refuted on edges among three variables.
use Prim.Native.Nat.{ℕ, zero, suc, ◌<◌}
use mathlib.Core.Path.{◌≡◌, refl, sym, ap, ◌∙◌}
use mathlib.Core.Bool.{Bool, true, false, ◌||◌, ◌&&◌, true≢false}
use native.Mathlib.Omega.{arith}
use lib.Dec.{eqb, ltb, lit<, lit≤}
use borrow.Author.Tests.{eqb-true}
use Rattle.walks.specs.Walk.{Walk, edge, step, AfterRound, BeforeRound, after, closed}
use Rattle.walks.proofs.Walks.{closed_before}

-- each set that has k takes in that of k
abbrev stopping : (ℕ → ℕ → Bool) → ℕ → ℕ → ℕ → Bool
stopping r k i j = r i j || (r i k && r k j)

-- a walk whose stops are 0 at most, by its first edge
first_of : {e : ℕ → ℕ → Bool} {i j : ℕ} → Walk e 0 i j → e i j ≡ false → e i 0 ≡ false → ⊥
first_of (edge p) f g = true≢false (sym p ∙ f)
first_of {e} {i} (step {m = m} p l w) f g = let q : m ≡ 0 = omega arith in true≢false (sym p ∙ ap (e i) q ∙ g)

-- ---- the edges 0 → 1 and 1 → 2

abbrev chain : ℕ → ℕ → Bool
chain i j = eqb (suc i) j && ltb j 3

up : (i j : ℕ) → chain i j ≡ true → i < j
up i j = go (eqb (suc i) j) refl
  where
    go : (b : Bool) → eqb (suc i) j ≡ b → (b && ltb j 3) ≡ true → i < j
    go true p h = omega (arith, eqb-true (suc i) j p)
    go false p h = absurd (true≢false (sym h))

rises : {k i j : ℕ} → Walk chain k i j → i < j
rises (edge p) = up _ _ p
rises (step {i = i} {m = m} p l w) = omega (arith, up i m p, rises w)

-- a walk of no edge is none: 0 does not reach itself, whichever round was the last
pub not_itself : (r : ℕ → ℕ → Bool) (k : ℕ) → r 0 0 ≡ true → AfterRound chain r 3 k → ⊥
not_itself r k e h = omega (arith, rises (h.sound 0 0 (lit< tt) (lit< tt) e))

-- the sets after variable 0's round are not those after variable 1's: 0 reaches 2 over 1
pub not_stopped_short : (r : ℕ → ℕ → Bool) → AfterRound chain r 3 0 → AfterRound chain r 3 1 → ⊥
not_stopped_short r h g =
    first_of (h.sound 0 2 (lit< tt) (lit< tt) (g.whole 0 2 (lit< tt) (lit< tt) (step {m = 1} refl (lit≤ tt) (edge refl)))) refl refl

-- ---- the edges 0 → 2 and 2 → 1

abbrev bent : ℕ → ℕ → Bool
bent i j = (eqb i 0 && eqb j 2) || (eqb i 2 && eqb j 1)

-- the round of variable 2 alone, taken for that of variable 0: 0 reaches 1 over 2
pub not_descending : AfterRound bent (stopping bent 2) 3 0 → ⊥
not_descending h = first_of (h.sound 0 1 (lit< tt) (lit< tt) refl) refl refl

-- yet the rounds in descending order end in what those in ascending order end in
three : (P : ℕ → Type 0) → P 0 → P 1 → P 2 → (i : ℕ) → i < 3 → P i
three P a b c zero h = a
three P a b c (suc zero) h = b
three P a b c (suc (suc zero)) h = c
three P a b c (suc (suc (suc i))) h = let f : ⊥ = omega arith in absurd f

abbrev descending : ℕ → ℕ → Bool
descending = stopping (stopping (stopping bent 2) 1) 0

same : (i : ℕ) → i < 3 → (j : ℕ) → j < 3 → descending i j ≡ closed bent 3 i j
unfolding closed
same = three _ (three _ refl refl refl) (three _ refl refl refl) (three _ refl refl refl)

pub last_agrees : AfterRound bent descending 3 2
last_agrees = go (closed_before bent 3 3 (lit≤ tt))
  where
    go : BeforeRound bent (closed bent 3) 3 3 → AfterRound bent descending 3 2
    go (after h) = record { sound = λ i j hi hj p. h.sound i j hi hj (sym (same i hi j hj) ∙ p); whole = λ i j hi hj w. same i hi j hj ∙ h.whole i j hi hj w }

-- ---- the edges 2 → 0 and 0 → 1

abbrev down : ℕ → ℕ → Bool
down i j = (eqb i 2 && eqb j 0) || (eqb i 0 && eqb j 1)

-- the last set, left as it was in variable 0's round, is wrong: 2 reaches 1 over 0
pub not_last_left_out : (r : ℕ → ℕ → Bool) → r 2 1 ≡ down 2 1 → AfterRound down r 3 0 → ⊥
not_last_left_out r e h = true≢false (sym (h.whole 2 1 (lit< tt) (lit< tt) (step {m = 0} refl (lit≤ tt) (edge refl))) ∙ e)

-- the set of 2, which has 0, taken into that of 0: 0 does not reach itself
pub not_into_k : (r : ℕ → ℕ → Bool) → r 0 0 ≡ down 2 0 → AfterRound down r 3 0 → ⊥
not_into_k r e h = first_of (h.sound 0 0 (lit< tt) (lit< tt) e) refl refl
