-- Laws of walks, and of what is reached where one more stop is allowed.
use mathlib.Core.Path.{◌≡◌, refl, sym, ◌∙◌}
use mathlib.Core.Logic.{◌⊎◌, inl, inr, ⊎_elim}
use mathlib.Core.Bool.{Bool, true, false, ◌||◌, ◌&&◌}
use Prim.Native.Nat.{ℕ, zero, suc, ◌≤◌, ◌<◌}
use native.Mathlib.Nat.{eq-or-lt_of_le, not-suc-le-zero}
use native.Mathlib.Omega.{arith}
use Rattle.walks.specs.Walk.{Walk, edge, step, AfterRound, BeforeRound, edges, after, Round, closed}

-- over more edges
pub over : {e e' : ℕ → ℕ → Bool} → ((i j : ℕ) → e i j ≡ true → e' i j ≡ true) → {k i j : ℕ} → Walk e k i j → Walk e' k i j
over h (edge {i = i} {j = j} p) = edge (h i j p)
over h (step {i = i} {m = m} p l w) = step (h i m p) l (over h w)

-- ---- walks by a limit that every stop between is below: 0 allows none

data Short (e : ℕ → ℕ → Bool) (n : ℕ) : ℕ → ℕ → Type 0 where
  one : {i j : ℕ} → e i j ≡ true → Short e n i j
  more : {i m j : ℕ} → e i m ≡ true → m < n → Short e n m j → Short e n i j

module _ {e : ℕ → ℕ → Bool} where
  short : {k i j : ℕ} → Walk e k i j → Short e (suc k) i j
  short (edge p) = one p
  short (step p l w) = more p (omega arith) (short w)

  long : {k i j : ℕ} → Short e (suc k) i j → Walk e k i j
  long (one p) = edge p
  long (more p l w) = step p (omega arith) (long w)

  -- more stops may be allowed
  higher : {n m i j : ℕ} → n ≤ m → Short e n i j → Short e m i j
  higher h (one p) = one p
  higher h (more p l w) = more p (omega arith) (higher h w)

  -- one walk after another
  append : {n i k j : ℕ} → k < n → Short e n i k → Short e n k j → Short e n i j
  append h (one p) v = more p h v
  append h (more p l w) v = more p l (append h w v)

  -- a walk that may stop at k too is one that does not, or goes by k
  part : {k i j : ℕ} → Short e (suc k) i j → Short e k i j ⊎ (Short e k i k × Short e k k j)
  part (one p) = inl (one p)
  part {k} {i} {j} (more {m = m} p l w) = go (eq-or-lt_of_le (omega arith)) (part w)
    where
      go : (m ≡ k) ⊎ (m < k) → Short e k m j ⊎ (Short e k m k × Short e k k j) → Short e k i j ⊎ (Short e k i k × Short e k k j)
      go (inl q) (inl v) = inr (one (rw q at p), rw q at v)
      go (inl q) (inr v) = inr (one (rw q at p), v.1)
      go (inr q) (inl v) = inl (more p q v)
      go (inr q) (inr v) = inr (more p q v.0, v.1)

-- ---- what is reached, by such a limit

record Reached (e r : ℕ → ℕ → Bool) (variables n : ℕ) : Type 0 where
  pub sound : (i j : ℕ) → i < variables → j < variables → r i j ≡ true → Short e n i j
  pub whole : (i j : ℕ) → i < variables → j < variables → Short e n i j → r i j ≡ true

-- each set that has k takes in that of k
abbrev pub Rounded : (ℕ → ℕ → Bool) → (ℕ → ℕ → Bool) → ℕ → ℕ → Type 0
Rounded r r' variables k = (a b : ℕ) → a < variables → b < variables → r' a b ≡ (r a b || (r a k && r k b))

pub or_cases : (x y : Bool) → (x || y) ≡ true → (x ≡ true) ⊎ (y ≡ true)
or_cases true y p = inl refl
or_cases false y p = inr p

and_parts : (x y : Bool) → (x && y) ≡ true → (x ≡ true) × (y ≡ true)
and_parts true y p = (refl, p)
and_parts false true p = (p, refl)
and_parts false false p = (p, p)

or_left : (x y : Bool) → x ≡ true → (x || y) ≡ true
or_left true y p = refl
or_left false true p = refl
or_left false false p = p

or_right : (x y z : Bool) → y ≡ true → z ≡ true → (x || (y && z)) ≡ true
or_right true y z p q = refl
or_right false true z p q = q
or_right false false z p q = p

-- the round of k
one_more : {e r r' : ℕ → ℕ → Bool} {variables k : ℕ} → k < variables → Rounded r r' variables k → Reached e r variables k → Reached e r' variables (suc k)
one_more {e} {r} {r'} {variables} {k} hk law h = record { sound = sound; whole = whole }
  where
    sound : (i j : ℕ) → i < variables → j < variables → r' i j ≡ true → Short e (suc k) i j
    sound i j hi hj p =
        ⊎_elim (λ q. higher (omega arith) (h.sound i j hi hj q))
        (λ q. let q2 = and_parts (r i k) (r k j) q in
        append (omega arith) (higher (omega arith) (h.sound i k hi hk q2.0)) (higher (omega arith) (h.sound k j hk hj q2.1)))
        (or_cases (r i j) (r i k && r k j) (sym (law i j hi hj) ∙ p))

    whole : (i j : ℕ) → i < variables → j < variables → Short e (suc k) i j → r' i j ≡ true
    whole i j hi hj w =
        law i j hi hj ∙ ⊎_elim (λ v. or_left (r i j) (r i k && r k j) (h.whole i j hi hj v))
        (λ v. or_right (r i j) (r i k) (r k j) (h.whole i k hi hk v.0) (h.whole k j hk hj v.1)) (part w)

module _ {e r : ℕ → ℕ → Bool} {variables : ℕ} where
  -- the sets before a round, by the limit
  before_reached : {k : ℕ} → BeforeRound e r variables k → Reached e r variables k
  before_reached (edges is) = record { sound = λ i j hi hj p. one (sym (is i j hi hj) ∙ p); whole = λ i j hi hj w. is i j hi hj ∙ first w }
    where
      first : {i j : ℕ} → Short e 0 i j → e i j ≡ true
      first (one p) = p
      first (more p l w) = absurd (not-suc-le-zero l)
  before_reached (after h) = record { sound = λ i j hi hj p. short (h.sound i j hi hj p); whole = λ i j hi hj w. h.whole i j hi hj (long w) }

  reached_after : {k : ℕ} → Reached e r variables (suc k) → AfterRound e r variables k
  reached_after h = record { sound = λ i j hi hj p. long (h.sound i j hi hj p); whole = λ i j hi hj w. h.whole i j hi hj (short w) }

-- ---- the rounds

-- where each set that has k takes in that of k, this is variable k's round
pub rounded : {r r' : ℕ → ℕ → Bool} {variables k : ℕ} → k < variables → Rounded r r' variables k → Round r r' variables k
rounded hk law = record { turns = λ e h. reached_after (one_more hk law (before_reached h)) }

-- `closed` holds the sets before each round
pub closed_before : (e : ℕ → ℕ → Bool) (variables k : ℕ) → k ≤ variables → BeforeRound e (closed e k) variables k
unfolding closed
closed_before e variables zero h = edges (λ i j hi hj. refl)
closed_before e variables (suc k) h =
    let l : k < variables = omega arith in
    after ((rounded {r = closed e k} {r' = closed e (suc k)} l (λ a b ha hb. refl)).turns e (closed_before e variables k (omega arith)))

-- ---- what any walk reaches

-- a stop between has an edge to it and an edge from it
abbrev pub StopsBelow : (ℕ → ℕ → Bool) → ℕ → Type 0
StopsBelow e limit = (i m j : ℕ) → e i m ≡ true → e m j ≡ true → m < limit

module _ {e r : ℕ → ℕ → Bool} {variables k : ℕ} (h : BeforeRound e r variables k) where
  pub before_walk : (i j : ℕ) → i < variables → j < variables → r i j ≡ true → (n : ℕ) × Walk e n i j
  before_walk i j hi hj p = (k, long (higher (omega arith) ((before_reached h).sound i j hi hj p)))

  -- where every stop had its round
  pub walk_before : StopsBelow e k → (i j : ℕ) → i < variables → j < variables → {n : ℕ} → Walk e n i j → r i j ≡ true
  walk_before stops i j hi hj w = (before_reached h).whole i j hi hj (limited w)
    where
      next : {n i j : ℕ} → Walk e n i j → (m : ℕ) × (e i m ≡ true)
      next (edge {j = j} p) = (j, p)
      next (step {m = m} p l w) = (m, p)

      limited : {n i j : ℕ} → Walk e n i j → Short e k i j
      limited (edge p) = one p
      limited (step {i = i} {m = m} p l w) = more p (stops i m _ p (next w).1) (limited w)
