-- The next member of a set: the zeros below a word's lowest set bit.
use Rattle.std.specs.Prelude.{Option, Some, None}
use mathlib.Core.Path.{◌≡◌, sym, ap, ap₂, ◌∙◌, subst}
use mathlib.Core.Logic.{◌≢◌}
use mathlib.Core.Bool.{Bool, true, false, true≢false}
use mathlib.Core.List.{List}
use Prim.Native.Nat.{ℕ, zero, suc, ◌+◌, ◌-◌, ◌*◌, ◌/◌, ◌%◌, ◌^◌, ◌≤◌, ◌<◌}
use native.Mathlib.Nat.{div-eq_of_lt, lt_of_lt_of_le, lt_of_le_of_lt, not-suc-le-zero}
use native.Mathlib.Decide.{ℕ_discrete, dec_lt}
use native.Mathlib.Numerals.{add-one}
use native.Mathlib.Omega.{arith}
use lib.Dec.{eqb}
use lib.Arith.{lt-one}
use lib.Pow.{shr_lt, shr_le, shr-shr, pow_mono}
use lib.Count.{count_trailing_zeros, under}
use lib.ListN.{get_or}
use Rattle.words.specs.Bit.{word_bits, bit, has, NoneIn, LeastFrom, NextIs}
use Rattle.words.proofs.Bits.{bit_suc, bit_zero}

-- a number shifted down has the bits from there on
bit_shr : (w s j : ℕ) → bit (w / 2 ^ s) j ≡ bit w (s + j)
unfolding bit
bit_shr w s j = ap (λ (x : ℕ). eqb (x % 2) 1) (shr-shr w s j)

-- no bit at or above its length
high_bit : (w k j : ℕ) → w < 2 ^ k → k ≤ j → bit w j ≡ false
unfolding bit
high_bit w k j h l = ap (λ (x : ℕ). eqb (x % 2) 1) (div-eq_of_lt (lt_of_lt_of_le h (pow_mono l)))

-- a set bit is below its length
bit_below : (w k j : ℕ) → w < 2 ^ k → bit w j ≡ true → Dec (j < k) → j < k
bit_below w k j h p (yes l) = l
bit_below w k j h p (no f) = absurd (true≢false (sym p ∙ high_bit w k j h (omega arith)))

-- the lowest set bit of w, a number of k digits
record Lowest (k w : ℕ) : Type 0 where
  inside : count_trailing_zeros k w < k
  set_bit : bit w (count_trailing_zeros k w) ≡ true
  below_it : (j : ℕ) → j < count_trailing_zeros k w → bit w j ≡ false

low_is : (w d : ℕ) → w % 2 ≡ d → bit w 0 ≡ eqb d 1
unfolding bit
low_is w d e = let q : w / 1 % 2 ≡ d = omega arith in ap (λ (x : ℕ). eqb x 1) q

lowest_even : (k w : ℕ) → w % 2 ≡ 0 → Lowest k (w / 2) → Lowest (suc k) w
unfolding count_trailing_zeros
lowest_even k w e i =
    let t : count_trailing_zeros (suc k) w ≡ suc (count_trailing_zeros k (w / 2)) = ap (λ (d : ℕ). under d (count_trailing_zeros k (w / 2))) e in
    let m = i.inside in
    record {
      inside = omega arith;
      set_bit = ap (bit w) t ∙ bit_suc w (count_trailing_zeros k (w / 2)) ∙ i.set_bit;
      below_it = λ j l. below j (omega arith);
    }
  where
    below : (j : ℕ) → j < suc (count_trailing_zeros k (w / 2)) → bit w j ≡ false
    below zero l = low_is w 0 e
    below (suc j) l = bit_suc w j ∙ i.below_it j (omega arith)

lowest_odd : (k w : ℕ) → w % 2 ≡ 1 → Lowest (suc k) w
unfolding count_trailing_zeros
lowest_odd k w e =
    let t : count_trailing_zeros (suc k) w ≡ 0 = ap (λ (d : ℕ). under d (count_trailing_zeros k (w / 2))) e in
    record {
      inside = omega arith;
      set_bit = ap (bit w) t ∙ low_is w 1 e;
      below_it = λ j l. absurd (not-suc-le-zero (subst (λ (x : ℕ). j < x) t l));
    }

-- the count of zeros is the number of the lowest set bit
lowest : (k w : ℕ) → w < 2 ^ k → w ≢ 0 → Lowest k w
lowest zero w h f = absurd (f (lt-one h))
lowest (suc k) w h f =
    pick (ℕ_discrete (w % 2) 0) (λ e. lowest k (w / 2) (shr_lt k 1 (subst (λ (n : ℕ). w < 2 ^ n) (sym (add-one k)) h)) (λ q. f (omega arith)))
  where
    pick : Dec (w % 2 ≡ 0) → (w % 2 ≡ 0 → Lowest k (w / 2)) → Lowest (suc k) w
    pick (yes e) i = lowest_even k w e (i e)
    pick (no g) i = lowest_odd k w (omega arith)

-- the word of `at`, from its bit on
abbrev pub rest_at : List ℕ → ℕ → ℕ
rest_at ws at = get_or ws (at / word_bits) 0 / 2 ^ (at % word_bits)

in_word : (ws : List ℕ) (at j : ℕ) → at % word_bits + j < word_bits → has ws (at + j) ≡ bit (rest_at ws at) j
unfolding has
in_word ws at j h =
    ap₂ (λ (k b : ℕ). bit (get_or ws k 0) b) (word_is at j h) (bit_is at j h) ∙ sym (bit_shr (get_or ws (at / word_bits) 0) (at % word_bits) j)
  where
    word_is : (at j : ℕ) → at % word_bits + j < word_bits → (at + j) / word_bits ≡ at / word_bits
    word_is at j h = omega arith

    bit_is : (at j : ℕ) → at % word_bits + j < word_bits → (at + j) % word_bits ≡ at % word_bits + j
    bit_is at j h = omega arith

back : (i at : ℕ) → at ≤ i → i ≡ at + (i - at)
back i at l = omega arith

-- none at the start
pub none_at : (p : ℕ → Bool) (from : ℕ) → NoneIn p from from
none_at p from i l h = let f : ⊥ = omega arith in absurd f

-- none before `at`, and none in the rest of its word
pub further : (ws : List ℕ) (from at : ℕ) → rest_at ws at ≡ 0 → NoneIn (has ws) from at
    → NoneIn (has ws) from ((at / word_bits + 1) * word_bits)
further ws from at e none i x y = go (dec_lt i at)
  where
    go : Dec (i < at) → has ws i ≡ false
    go (yes p) = none i x p
    go (no g) =
        ap (has ws) (back i at (omega arith)) ∙ in_word ws at (i - at) (omega arith) ∙ ap (λ (w : ℕ). bit w (i - at)) e ∙ bit_zero (i - at)

-- none before `at`, and some in the rest of its word, of m words
module _ (ws : List ℕ) (m from at : ℕ) (ha : at < word_bits * m) (fits : get_or ws (at / word_bits) 0 < 2 ^ word_bits) (some : rest_at ws at ≢ 0)
    (past : from ≤ at) (none : NoneIn (has ws) from at) where
  low : Lowest word_bits (rest_at ws at)
  low = lowest word_bits (rest_at ws at) (lt_of_le_of_lt (shr_le (get_or ws (at / word_bits) 0) (at % word_bits)) fits) some

  stays : at % word_bits + count_trailing_zeros word_bits (rest_at ws at) < word_bits
  stays =
      let t = count_trailing_zeros word_bits (rest_at ws at) in
      bit_below (get_or ws (at / word_bits) 0) word_bits (at % word_bits + t) fits
      (sym (bit_shr (get_or ws (at / word_bits) 0) (at % word_bits) t) ∙ low.set_bit) (dec_lt (at % word_bits + t) word_bits)

  pub found_in_word : LeastFrom (has ws) from (word_bits * m) (at + count_trailing_zeros word_bits (rest_at ws at))
  found_in_word =
      let t = count_trailing_zeros word_bits (rest_at ws at) in
      let s = stays in
      record {
        above = omega arith;
        below = omega arith;
        member = in_word ws at t s ∙ low.set_bit;
        first = λ i l h. before i l h (dec_lt i at);
      }
    where
      before : (i : ℕ) → from ≤ i → i < at + count_trailing_zeros word_bits (rest_at ws at) → Dec (i < at) → has ws i ≡ false
      before i l h (yes p) = none i l p
      before i l h (no g) =
          let s = stays in
          ap (has ws) (back i at (omega arith)) ∙ in_word ws at (i - at) (omega arith) ∙ low.below_it (i - at) (omega arith)

-- an answer that is known
module _ (p : ℕ → Bool) (from top : ℕ) {r : Option ℕ} (h : NextIs p from top r) where
  pub next_at_is : {v : ℕ} → r ≡ Some v → LeastFrom p from top v
  next_at_is e = rw e at h

  pub next_none : r ≡ None → NoneIn p from top
  next_none e = rw e at h
