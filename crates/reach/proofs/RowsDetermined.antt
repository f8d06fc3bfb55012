-- Rows are what each row has, and any rows are those of a list of words.
use mathlib.Core.Path.{◌≡◌, sym, ap, ap₂, ◌∙◌}
use mathlib.Core.Bool.{Bool, false}
use mathlib.Core.List.{List}
use Prim.Native.Nat.{ℕ, ◌+◌, ◌*◌, ◌/◌, ◌%◌, ◌≤◌, ◌<◌}
use native.Mathlib.Decide.{dec_lt}
use native.Mathlib.Omega.{arith}
use lib.ListN.{length, get_or, get_or-eq_default}
use lib.Seq.{ext_get_or}
use Rattle.format.specs.Limits.{max_variables}
use Rattle.words.specs.Bit.{word_bits, word_count, bit}
use Rattle.words.proofs.Bits.{bit_zero}
use Rattle.words.proofs.WordBits.{WordsIn, same_bits, of_bits, of_bits_below, of_bits_bit, list_of, list_length, list_at, list_words}
use Rattle.reach.specs.Rows.{row_has}

-- bit j of word i stands for this variable, in the row of this one
abbrev row : ℕ → ℕ
row i = i / word_count

abbrev among : ℕ → ℕ → ℕ
among i j = word_bits * (i % word_count) + j

row-bit : (ws : List ℕ) (i j : ℕ) → j < word_bits → row_has ws (row i) (among i j) ≡ bit (get_or ws i 0) j
unfolding row_has
row-bit ws i j h =
    let p : word_count * row i + among i j / word_bits ≡ i = omega arith in
    let q : among i j % word_bits ≡ j = omega arith in
    ap₂ (λ (x y : ℕ). bit (get_or ws x 0) y) p q

module _ {ws vs : List ℕ} (w : WordsIn ws) (v : WordsIn vs) where
  -- two words are the same where their rows have the same
  pub same_word : (i : ℕ) → ((b : ℕ) → b < max_variables → row_has ws (row i) b ≡ row_has vs (row i) b) → get_or ws i 0 ≡ get_or vs i 0
  same_word i is =
      same_bits word_bits _ _ (w.each i) (v.each i)
      (λ j l. sym (row-bit ws i j l) ∙ is (among i j) (omega arith) ∙ row-bit vs i j l)

  -- and so are two lists of one length
  pub same_rows : length ws ≡ length vs → ((a b : ℕ) → b < max_variables → row_has ws a b ≡ row_has vs a b) → ws ≡ vs
  same_rows len is = ext_get_or 0 ws vs len (λ i h. same_word i (is (row i)))

-- nothing stands past the end
pub none_past : (ws : List ℕ) (a b : ℕ) → length ws ≤ word_count * a + b / word_bits → row_has ws a b ≡ false
unfolding row_has
none_past ws a b h = ap (λ (w : ℕ). bit w (b % word_bits)) (get_or-eq_default ws 0 h) ∙ bit_zero (b % word_bits)

-- ---- n words with the rows of a test

word_of : (ℕ → ℕ → Bool) → ℕ → ℕ
word_of r i = of_bits (λ j. r (row i) (among i j)) word_bits

pub rows_of : (ℕ → ℕ → Bool) → ℕ → List ℕ
rows_of r n = list_of (word_of r) n

module _ (r : ℕ → ℕ → Bool) (n : ℕ) where
  pub rows_length_is : length (rows_of r n) ≡ n
  unfolding rows_of
  rows_length_is = list_length (word_of r) n

  pub rows_words : WordsIn (rows_of r n)
  unfolding rows_of word_of
  rows_words = list_words (word_of r) n (λ i h. of_bits_below _ word_bits)

  inside : (a b : ℕ) → b < max_variables → word_count * a + b / word_bits < n → row_has (rows_of r n) a b ≡ r a b
  unfolding row_has rows_of word_of
  inside a b hb h =
      let i = word_count * a + b / word_bits in
      let p : row i ≡ a = omega arith in
      let q : among i (b % word_bits) ≡ b = omega arith in
      ap (λ (w : ℕ). bit w (b % word_bits)) (list_at (word_of r) n i h) ∙ of_bits_bit _ word_bits (b % word_bits) (omega arith) ∙ ap₂ r p q

  -- where the test has nothing past the end
  pub rows_are : ((a b : ℕ) → b < max_variables → n ≤ word_count * a + b / word_bits → r a b ≡ false)
      → (a b : ℕ) → b < max_variables → row_has (rows_of r n) a b ≡ r a b
  rows_are none a b hb = go (dec_lt (word_count * a + b / word_bits) n)
    where
      go : Dec (word_count * a + b / word_bits < n) → row_has (rows_of r n) a b ≡ r a b
      go (yes h) = inside a b hb h
      go (no f) = none_past (rows_of r n) a b (omega (arith, rows_length_is)) ∙ sym (none a b hb (omega arith))
