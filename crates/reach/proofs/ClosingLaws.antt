-- A row that takes in the rows of its variables, and rows closed one after the other.
use mathlib.Core.Path.{◌≡◌, refl, sym, ap, ap₂, ◌∙◌, subst}
use mathlib.Core.Logic.{⊎_elim}
use mathlib.Core.Bool.{Bool, true, false, ◌||◌, ◌&&◌, not, or-false, or-true, and-false, true≢false}
use mathlib.Core.List.{List, [], ◌∷◌}
use Prim.Native.Nat.{ℕ, zero, suc, ◌+◌, ◌-◌, ◌*◌, ◌/◌, ◌%◌, ◌^◌, ◌≤◌, ◌<◌, min}
use native.Mathlib.Nat.{mod-lt, pow-suc}
use native.Mathlib.Decide.{ℕ_discrete, dec_lt}
use native.Mathlib.Omega.{arith}
use lib.Dec.{eqb, ltb}
use lib.ListN.{length, get_or, replicate, get_or-eq_default}
use lib.Bits.{bit_and, and_shr, and_step, and_zero_r}
use lib.Pow.{pow_pos}
use borrow.Author.Tests.{eqb-true, eq-eqb, ne_eqb, lt-ltb, le-ltb}
use Rattle.format.specs.Limits.{max_variables}
use Rattle.words.specs.Bit.{word_bits, word_count, bit, has, NoneIn, LeastFrom}
use Rattle.words.proofs.Bits.{bit_suc, no_two}
use Rattle.walks.specs.Walk.{Walk, edge, step}
use Rattle.walks.proofs.Walks.{or_cases}
use Rattle.reach.specs.Rows.{row_has, Joined}
use Rattle.reach.specs.Closing.{ReachedIn, Closed}

-- ---- what two words have

min-bit : (x y : ℕ) → x < 2 → y < 2 → eqb (min x y) 1 ≡ (eqb x 1 && eqb y 1)
min-bit zero zero p q = refl
min-bit zero (suc zero) p q = refl
min-bit zero (suc (suc y)) p q = absurd (no_two y q)
min-bit (suc zero) zero p q = refl
min-bit (suc zero) (suc zero) p q = refl
min-bit (suc zero) (suc (suc y)) p q = absurd (no_two y q)
min-bit (suc (suc x)) y p q = absurd (no_two x p)

min_low : (q x y : ℕ) → x < 2 → y < 2 → (q * 2 + min x y) % 2 ≡ min x y
min_low q x y hx hy = omega arith

bit_and_lem : (a b j : ℕ) → bit (bit_and a b) j ≡ (bit a j && bit b j)
unfolding bit
bit_and_lem a b j =
    let x = a / 2 ^ j in
    let y = b / 2 ^ j in
    ap (λ (z : ℕ). eqb (z % 2) 1) (and_shr a b j ∙ and_step x y)
    ∙ ap (λ (z : ℕ). eqb z 1) (min_low (bit_and (x / 2) (y / 2)) (x % 2) (y % 2) (mod-lt x (omega arith)) (mod-lt y (omega arith)))
    ∙ min-bit (x % 2) (y % 2) (mod-lt x (omega arith)) (mod-lt y (omega arith))

-- the words of row x, each with a word of the set
abbrev met : List ℕ → ℕ → List ℕ → List ℕ
met ws p vs =
    bit_and (get_or ws p 0) (get_or vs 0 0) ∷ bit_and (get_or ws (p + 1) 0) (get_or vs 1 0)
    ∷ bit_and (get_or ws (p + 2) 0) (get_or vs 2 0) ∷ bit_and (get_or ws (p + 3) 0) (get_or vs 3 0) ∷ []

pub row_met : (ws vs : List ℕ) (x : ℕ) → length vs ≡ word_count → (j : ℕ) → has (met ws (word_count * x) vs) j ≡ (row_has ws x j && has vs j)
unfolding has row_has
row_met ws vs x e j =
    ap (λ (w : ℕ). bit w (j % word_bits)) (word (j / word_bits))
    ∙ bit_and_lem (get_or ws (word_count * x + j / word_bits) 0) (get_or vs (j / word_bits) 0) (j % word_bits)
  where
    word : (k : ℕ) → get_or (met ws (word_count * x) vs) k 0 ≡ bit_and (get_or ws (word_count * x + k) 0) (get_or vs k 0)
    word zero = let q : word_count * x ≡ word_count * x + 0 = omega arith in ap (λ (i : ℕ). bit_and (get_or ws i 0) (get_or vs 0 0)) q
    word (suc zero) = refl
    word (suc (suc zero)) = refl
    word (suc (suc (suc zero))) = refl
    word (suc (suc (suc (suc k)))) =
        let past : get_or vs (suc (suc (suc (suc k)))) 0 ≡ 0 = get_or-eq_default vs 0 (omega arith) in
        sym (ap (bit_and (get_or ws (word_count * x + suc (suc (suc (suc k)))) 0)) past ∙ and_zero_r (get_or ws (word_count * x + suc (suc (suc (suc k)))) 0))

-- a test that both meet
pub both : (a b : Bool) → (a && b) ≡ true → (a ≡ true) × (b ≡ true)
both true b e = (refl, e)
both false b e = absurd (true≢false (sym e))

-- ---- every number of a set

bit-ones : (k j : ℕ) → j < k → bit (2 ^ k - 1) j ≡ true
unfolding bit
bit-ones zero j h = let f : ⊥ = omega arith in absurd f
bit-ones (suc k) zero h =
    let l = pow_pos k in
    let p = pow-suc 2 k in
    let q : (2 ^ suc k - 1) / 1 % 2 ≡ 1 = omega arith in ap (λ (x : ℕ). eqb x 1) q
bit-ones (suc k) (suc j) h =
    let l = pow_pos k in
    let p = pow-suc 2 k in
    let q : (2 ^ suc k - 1) / 2 ≡ 2 ^ k - 1 = omega arith in
    bit_suc (2 ^ suc k - 1) j ∙ ap (λ (x : ℕ). bit x j) q ∙ bit-ones k j (omega arith)

all_words : (a m k : ℕ) → k < m → get_or (replicate m a) k 0 ≡ a
all_words a zero k h = let f : ⊥ = omega arith in absurd f
all_words a (suc m) zero h = refl
all_words a (suc m) (suc k) h = all_words a m k (omega arith)

pub all_in : (j : ℕ) → j < max_variables → has (replicate word_count 18446744073709551615) j ≡ true
unfolding has
all_in j h =
    ap (λ (w : ℕ). bit w (j % word_bits)) (all_words 18446744073709551615 word_count (j / word_bits) (omega arith))
    ∙ bit-ones word_bits (j % word_bits) (omega arith)

-- ---- what is reached by stops below n

module _ {e : ℕ → ℕ → Bool} where
  raised : {a b i j : ℕ} → a ≤ b → Walk e a i j → Walk e b i j
  raised h (edge p) = edge p
  raised h (step p l w) = step p (omega arith) (raised h w)

  chain : {n k i m j : ℕ} → Walk e k i m → k < n → m < n → Walk e (n - 1) m j → Walk e (n - 1) i j
  chain (edge p) hk hm v = step p (omega arith) v
  chain (step p l w) hk hm v = step p (omega arith) (chain w hk hm v)

  pub reached_on : {n i m j : ℕ} → ReachedIn e n i m → m < n → ReachedIn e n m j → ReachedIn e n i j
  reached_on {n} u hm v = (n - 1, omega arith, chain u.2 u.1 hm (raised (let h = v.1 in omega arith) v.2))

-- ---- row x takes in the rows of its variables

-- r' is r where row x has taken in the rows of the variables that are not left
pub record Taking (r r' : ℕ → ℕ → Bool) (n x : ℕ) (left : ℕ → Bool) : Type 0 where
  pub others : (a b : ℕ) → eqb a x ≡ false → b < max_variables → r' a b ≡ r a b
  pub sound : (j : ℕ) → j < max_variables → r' x j ≡ true → ReachedIn r n x j
  pub grown : (j : ℕ) → j < max_variables → r x j ≡ true → r' x j ≡ true
  pub taken : (m j : ℕ) → m < n → j < max_variables → left m ≡ false → r m j ≡ true → r' x j ≡ true

-- none yet
pub taking_none : (r : ℕ → ℕ → Bool) (n x : ℕ) (left : ℕ → Bool) → x < n → n ≤ max_variables → ((j : ℕ) → j < max_variables → left j ≡ true)
    → Taking r r n x left
taking_none r n x left hx few all = record {
  others = λ a b f hb. refl;
  sound = λ j hj p. (0, omega arith, edge p);
  grown = λ j hj p. p;
  taken = λ m j hm hj f p. absurd (true≢false (sym (all m (omega arith)) ∙ f));
}

or_left : (x y : Bool) → x ≡ true → (x || y) ≡ true
or_left true y p = refl
or_left false y p = absurd (true≢false (sym p))

module _ {r r' : ℕ → ℕ → Bool} {n x : ℕ} {left : ℕ → Bool} (few : n ≤ max_variables) (hx : x < n) (t : Taking r r' n x left) where
  -- the row of m has what it had, and nothing but what m reaches
  row_kept : (m j : ℕ) → j < max_variables → r m j ≡ true → r' m j ≡ true
  row_kept m j hj p = go (eqb m x) refl
    where
      go : (b : Bool) → eqb m x ≡ b → r' m j ≡ true
      go true e = let q = eqb-true m x e in rw q (t.grown j hj (rw q at p))
      go false e = t.others m j e hj ∙ p

  row_reached : (m j : ℕ) → j < max_variables → r' m j ≡ true → ReachedIn r n m j
  row_reached m j hj p = go (eqb m x) refl
    where
      go : (b : Bool) → eqb m x ≡ b → ReachedIn r n m j
      go true e = let q = eqb-true m x e in subst (λ (i : ℕ). ReachedIn r n i j) (sym q) (t.sound j hj (rw q at p))
      go false e = (0, omega arith, edge (sym (t.others m j e hj) ∙ p))

  -- the row of one more, which row x has
  pub taking_more : {r'' : ℕ → ℕ → Bool} {left' : ℕ → Bool} (m : ℕ) → m < n → r' x m ≡ true → Joined r' r'' x m
      → ((j : ℕ) → left' j ≡ (not (eqb j m) && left j)) → Taking r r'' n x left'
  taking_more {r''} {left'} m hm member joins drops = record { others = others; sound = sound; grown = λ j hj p. kept j hj (t.grown j hj p); taken = taken }
    where
      row_x : (j : ℕ) → j < max_variables → r'' x j ≡ (r' x j || r' m j)
      row_x j hj = joins.is x j hj ∙ ap (λ (b : Bool). r' x j || (b && r' m j)) (eq-eqb x x refl)

      kept : (j : ℕ) → j < max_variables → r' x j ≡ true → r'' x j ≡ true
      kept j hj p = row_x j hj ∙ or_left (r' x j) (r' m j) p

      others : (a b : ℕ) → eqb a x ≡ false → b < max_variables → r'' a b ≡ r a b
      others a b f hb = joins.is a b hb ∙ ap (λ (y : Bool). r' a b || (y && r' m b)) f ∙ or-false (r' a b) ∙ t.others a b f hb

      sound : (j : ℕ) → j < max_variables → r'' x j ≡ true → ReachedIn r n x j
      sound j hj p = ⊎_elim (λ q. t.sound j hj q) (λ q. reached_on (t.sound m (omega arith) member) hm (row_reached m j hj q))
          (or_cases (r' x j) (r' m j) (sym (row_x j hj) ∙ p))

      taken : (i j : ℕ) → i < n → j < max_variables → left' i ≡ false → r i j ≡ true → r'' x j ≡ true
      taken i j hi hj f p = go (eqb i m) refl
        where
          go : (b : Bool) → eqb i m ≡ b → r'' x j ≡ true
          go true e =
              let q = row_kept m j hj (rw (eqb-true i m e) at p) in
              row_x j hj ∙ ap (λ (y : Bool). r' x j || y) q ∙ or-true (r' x j)
          go false e = kept j hj (t.taken i j hi hj (sym (drops i ∙ ap (λ (y : Bool). not y && left i) e) ∙ f) p)

  -- none of its variables is left
  pub taking_all : ((j : ℕ) → j < n → (r' x j && left j) ≡ false) → Closed r r' n (λ a. eqb a x)
  taking_all none = record {
    others = t.others;
    sound = λ y j e hj p. let q = eqb-true y x e in subst (λ (i : ℕ). ReachedIn r n i j) (sym q) (t.sound j hj (rw q at p));
    whole = λ y j e hj w. let q = eqb-true y x e in rw q (first j hj w.1 (subst (λ (i : ℕ). Walk r w.0 i j) q w.2));
  }
    where
      taken : (m j : ℕ) → m < n → j < max_variables → r' x m ≡ true → r m j ≡ true → r' x j ≡ true
      taken m j hm hj member p = t.taken m j hm hj (sym (ap (λ (b : Bool). b && left m) member) ∙ none m hm) p

      on : {k m : ℕ} (j : ℕ) → j < n → k < n → m < n → r' x m ≡ true → Walk r k m j → r' x j ≡ true
      on {k} {m} j hj hk hm member (edge p) = taken m j hm (omega arith) member p
      on {k} {m} j hj hk hm member (step {m = i} p l w) = on j hj hk (omega arith) (taken m i hm (omega arith) member p) w

      first : {k : ℕ} (j : ℕ) → j < n → k < n → Walk r k x j → r' x j ≡ true
      first j hj hk (edge p) = t.grown j (omega arith) p
      first j hj hk (step {m = i} p l w) = on j hj hk (omega arith) (t.grown i (omega arith) p) w

-- ---- one row after the other

pub closed_same : {r r' : ℕ → ℕ → Bool} {n : ℕ} {p q : ℕ → Bool} → ((a : ℕ) → p a ≡ q a) → Closed r r' n p → Closed r r' n q
closed_same same c = record {
  others = λ a b f hb. c.others a b (same a ∙ f) hb;
  sound = λ x j e hj h. c.sound x j (same x ∙ e) hj h;
  whole = λ x j e hj w. c.whole x j (same x ∙ e) hj w;
}

module _ {r r₁ r₂ : ℕ → ℕ → Bool} {n x : ℕ} {p : ℕ → Bool} (few : n ≤ max_variables) (hx : x < n) (c : Closed r r₁ n p)
    (d : Closed r₁ r₂ n (λ a. eqb a x)) where
  -- what is reached over the rows so far was reached before, and the other way round
  back : (a b : ℕ) → b < max_variables → r₁ a b ≡ true → ReachedIn r n a b
  back a b hb h = go (p a) refl
    where
      go : (y : Bool) → p a ≡ y → ReachedIn r n a b
      go true e = c.sound a b e hb h
      go false e = (0, omega arith, edge (sym (c.others a b e hb) ∙ h))

  backs : {k a j : ℕ} → k < n → j < max_variables → Walk r₁ k a j → ReachedIn r n a j
  backs {j = j} hk hj (edge {i = a} h) = back a j hj h
  backs hk hj (step {i = a} {m = m} h l w) = reached_on (back a m (omega arith) h) (omega arith) (backs hk hj w)

  forth : (a b : ℕ) → b < n → r a b ≡ true → r₁ a b ≡ true
  forth a b hb h = go (p a) refl
    where
      go : (y : Bool) → p a ≡ y → r₁ a b ≡ true
      go true e = c.whole a b e hb (0, omega arith, edge h)
      go false e = c.others a b e (omega arith) ∙ h

  forths : {k a j : ℕ} → k < n → j < n → Walk r k a j → Walk r₁ k a j
  forths {j = j} hk hj (edge {i = a} h) = edge (forth a j hj h)
  forths hk hj (step {i = a} {m = m} h l w) = step (forth a m (omega arith) h) l (forths hk hj w)

  pub closed_more : Closed r r₂ n (λ a. p a || eqb a x)
  closed_more = record {
    others = λ a b f hb. let g = parts (p a) (eqb a x) f in d.others a b g.1 hb ∙ c.others a b g.0 hb;
    sound = λ y j e hj h. sound y j hj h e (eqb y x) refl;
    whole = λ y j e hj w. whole y j hj w e (eqb y x) refl;
  }
    where
      parts : (y z : Bool) → (y || z) ≡ false → (y ≡ false) × (z ≡ false)
      parts true z f = absurd (true≢false f)
      parts false z f = (refl, f)

      earlier : (y : ℕ) → (p y || eqb y x) ≡ true → eqb y x ≡ false → p y ≡ true
      earlier y e f = sym (ap (λ (b : Bool). p y || b) f ∙ or-false (p y)) ∙ e

      sound : (y j : ℕ) → j < max_variables → r₂ y j ≡ true → (p y || eqb y x) ≡ true → (b : Bool) → eqb y x ≡ b → ReachedIn r n y j
      sound y j hj h e true q = let w = d.sound y j q hj h in backs w.1 hj w.2
      sound y j hj h e false q = c.sound y j (earlier y e q) hj (sym (d.others y j q hj) ∙ h)

      whole : (y j : ℕ) → j < n → ReachedIn r n y j → (p y || eqb y x) ≡ true → (b : Bool) → eqb y x ≡ b → r₂ y j ≡ true
      whole y j hj w e true q = d.whole y j q hj (w.0, w.1, forths w.1 hj w.2)
      whole y j hj w e false q = d.others y j q (omega arith) ∙ c.whole y j (earlier y e q) hj w

-- ---- the rows of a set, in ascending order

module _ (p : ℕ → Bool) where
  pub closed_none : {r : ℕ → ℕ → Bool} {n : ℕ} → Closed r r n (λ a. ltb a 0 && p a)
  closed_none = record {
    others = λ a b f hb. refl;
    sound = λ x j e hj h. absurd (true≢false (sym e ∙ never x));
    whole = λ x j e hj w. absurd (true≢false (sym e ∙ never x));
  }
    where
      never : (a : ℕ) → (ltb a 0 && p a) ≡ false
      never a = ap (λ (b : Bool). b && p a) (le-ltb a 0 (omega arith))

  -- up to the next of the set
  next_one : {from top x : ℕ} → LeastFrom p from top x → (a : ℕ) → ((ltb a from && p a) || eqb a x) ≡ (ltb a (x + 1) && p a)
  next_one {from} {top} {x} l a = go (ℕ_discrete a x) (dec_lt a from) (dec_lt a x)
    where
      go : Dec (a ≡ x) → Dec (a < from) → Dec (a < x) → ((ltb a from && p a) || eqb a x) ≡ (ltb a (x + 1) && p a)
      go (yes e) d d' =
          ap (λ (b : Bool). (ltb a from && p a) || b) (eq-eqb a x e) ∙ or-true (ltb a from && p a)
          ∙ sym (ap₂ ◌&&◌ (lt-ltb a (x + 1) (omega arith)) (ap p e ∙ l.member))
      go (no f) (yes h) d' =
          ap₂ (λ (b b' : Bool). (b && p a) || b') (lt-ltb a from h) (ne_eqb a x f) ∙ or-false (p a)
          ∙ sym (ap (λ (b : Bool). b && p a) (lt-ltb a (x + 1) (omega (arith, l.above))))
      go (no f) (no g) (yes h) =
          ap₂ (λ (b b' : Bool). (b && p a) || b') (le-ltb a from (omega arith)) (ne_eqb a x f)
          ∙ sym (ap (λ (b : Bool). ltb a (x + 1) && b) (l.first a (omega arith) h) ∙ and-false (ltb a (x + 1)))
      go (no f) (no g) (no g') =
          ap₂ (λ (b b' : Bool). (b && p a) || b') (le-ltb a from (omega arith)) (ne_eqb a x f)
          ∙ sym (ap (λ (b : Bool). b && p a) (le-ltb a (x + 1) (omega arith)))

  pub closed_next : {r r' r₂ : ℕ → ℕ → Bool} {n from top x : ℕ} → n ≤ max_variables → x < n → LeastFrom p from top x
      → Closed r r' n (λ a. ltb a from && p a) → Closed r' r₂ n (λ a. eqb a x) → Closed r r₂ n (λ a. ltb a (x + 1) && p a)
  closed_next few hx l c d = closed_same (next_one l) (closed_more few hx c d)

  pub closed_all : {r r' : ℕ → ℕ → Bool} {n from : ℕ} → n ≤ max_variables → ((v : ℕ) → p v ≡ true → v < n) → NoneIn p from max_variables
      → Closed r r' n (λ a. ltb a from && p a) → Closed r r' n p
  closed_all {from = from} few inside none c = closed_same (λ a. go a (p a) refl (dec_lt a from)) c
    where
      go : (a : ℕ) (b : Bool) → p a ≡ b → Dec (a < from) → (ltb a from && p a) ≡ p a
      go a b e (yes h) = ap (λ (y : Bool). y && p a) (lt-ltb a from h)
      go a true e (no g) = absurd (true≢false (sym e ∙ none a (omega arith) (let h = inside a e in omega arith)))
      go a false e (no g) = ap (λ (y : Bool). ltb a from && y) e ∙ and-false (ltb a from) ∙ sym e
