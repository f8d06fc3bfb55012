-- A word is its bits, and any bits are those of a word.
use mathlib.Core.Path.{◌≡◌, refl, sym, ap, ◌∙◌}
use mathlib.Core.Bool.{Bool, true, false}
use mathlib.Core.List.{List, [], ◌∷◌}
use Prim.Native.Nat.{ℕ, zero, suc, ◌+◌, ◌*◌, ◌/◌, ◌%◌, ◌^◌, ◌<◌}
use native.Mathlib.Decide.{dec_lt}
use native.Mathlib.Omega.{arith}
use lib.Dec.{eqb}
use lib.ListN.{length, get_or, get_or-eq_default}
use borrow.Author.Tests.{eqb-true, eqb-false}
use Rattle.words.specs.Bit.{word_bits, bit, one_if}
use Rattle.words.proofs.Bits.{bit_suc}

-- every element is a word
pub record WordsIn (ws : List ℕ) : Type 0 where
  pub each : (i : ℕ) → get_or ws i 0 < 2 ^ word_bits

-- ---- a word is its bits

pub lowest_is : (w : ℕ) → w % 2 ≡ one_if (bit w 0)
unfolding bit
lowest_is w = go (eqb (w / 1 % 2) 1) refl
  where
    go : (b : Bool) → eqb (w / 1 % 2) 1 ≡ b → w % 2 ≡ one_if b
    go true e = omega (arith, eqb-true (w / 1 % 2) 1 e)
    go false e = omega (arith, eqb-false (w / 1 % 2) 1 e)

-- numbers of k digits
pub same_bits : (k w v : ℕ) → w < 2 ^ k → v < 2 ^ k → ((j : ℕ) → j < k → bit w j ≡ bit v j) → w ≡ v
same_bits zero w v hw hv h = omega arith
same_bits (suc k) w v hw hv h =
    let low = ap one_if (h 0 (omega arith)) in
    let high = same_bits k (w / 2) (v / 2) (omega arith) (omega arith) (λ j l. sym (bit_suc w j) ∙ h (suc j) (omega arith) ∙ bit_suc v j) in
    omega (arith, lowest_is w, lowest_is v)

-- ---- bits are those of a word

-- the number of k digits whose bits are the test's
unfoldable pub of_bits : (ℕ → Bool) → ℕ → ℕ
of_bits p zero = 0
of_bits p (suc k) = one_if (p 0) + 2 * of_bits (λ j. p (suc j)) k

one_if_small : (b : Bool) → one_if b < 2
one_if_small true = omega arith
one_if_small false = omega arith

pub of_bits_below : (p : ℕ → Bool) (k : ℕ) → of_bits p k < 2 ^ k
unfolding of_bits
of_bits_below p zero = omega arith
of_bits_below p (suc k) = omega (arith, one_if_small (p 0), of_bits_below (λ j. p (suc j)) k)

low_of : (b : Bool) (n : ℕ) → bit (one_if b + 2 * n) 0 ≡ b
unfolding bit
low_of true n = let q : (1 + 2 * n) / 1 % 2 ≡ 1 = omega arith in ap (λ (x : ℕ). eqb x 1) q
low_of false n = let q : (0 + 2 * n) / 1 % 2 ≡ 0 = omega arith in ap (λ (x : ℕ). eqb x 1) q

pub of_bits_bit : (p : ℕ → Bool) (k j : ℕ) → j < k → bit (of_bits p k) j ≡ p j
unfolding of_bits
of_bits_bit p zero j h = let f : ⊥ = omega arith in absurd f
of_bits_bit p (suc k) zero h = low_of (p 0) (of_bits (λ j. p (suc j)) k)
of_bits_bit p (suc k) (suc j) h =
    let n = of_bits (λ j. p (suc j)) k in
    let q : (one_if (p 0) + 2 * n) / 2 ≡ n = omega (arith, one_if_small (p 0)) in
    bit_suc (one_if (p 0) + 2 * n) j ∙ ap (λ (x : ℕ). bit x j) q ∙ of_bits_bit (λ j. p (suc j)) k j (omega arith)

-- ---- a list by its elements

-- the first n of f's numbers
unfoldable pub list_of : (ℕ → ℕ) → ℕ → List ℕ
list_of f zero = []
list_of f (suc n) = f 0 ∷ list_of (λ i. f (suc i)) n

pub list_length : (f : ℕ → ℕ) (n : ℕ) → length (list_of f n) ≡ n
unfolding list_of
list_length f zero = refl
list_length f (suc n) = ap suc (list_length (λ i. f (suc i)) n)

pub list_at : (f : ℕ → ℕ) (n i : ℕ) → i < n → get_or (list_of f n) i 0 ≡ f i
unfolding list_of
list_at f zero i h = let z : ⊥ = omega arith in absurd z
list_at f (suc n) zero h = refl
list_at f (suc n) (suc i) h = list_at (λ i. f (suc i)) n i (omega arith)

-- it holds words where f gives words
pub list_words : (f : ℕ → ℕ) (n : ℕ) → ((i : ℕ) → i < n → f i < 2 ^ word_bits) → WordsIn (list_of f n)
list_words f n h = record { each = λ i. go i (dec_lt i n) }
  where
    go : (i : ℕ) → Dec (i < n) → get_or (list_of f n) i 0 < 2 ^ word_bits
    go i (yes l) = omega (arith, list_at f n i l, h i l)
    go i (no g) = omega (arith, get_or-eq_default (list_of f n) 0 {n = i} (omega (arith, list_length f n)))
