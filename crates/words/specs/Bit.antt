-- Document 01: "A set of variables is one bit for each of the 256 numbers." The bits stand in words: number i is bit i % word_bits of
-- word i / word_bits. `Set::quoted` shows that the code's constants are these.
use Rattle.std.specs.Prelude.{ℕ, zero, suc, ◌+◌, ◌/◌, ◌%◌, ◌^◌, ◌≤◌, ◌<◌, ◌≡◌, Bool, true, false, List, eqb, get_or, Option, Some, None}

-- the bits of a word
abbrev pub word_bits : ℕ
word_bits = 64

-- the words of a set
abbrev pub word_count : ℕ
word_count = 4

-- the most words of a set that a search is lent: the numbers of so many words are numbers of the machine
abbrev pub most_words : ℕ
most_words = 65536

-- whether bit j of the word w is set
unfoldable pub bit : ℕ → ℕ → Bool
bit w j = eqb (w / 2 ^ j % 2) 1

-- whether the set with the words ws has i
unfoldable pub has : List ℕ → ℕ → Bool
has ws i = bit (get_or ws (i / word_bits) 0) (i % word_bits)

-- a test counted
abbrev pub one_if : Bool → ℕ
one_if true = 1
one_if false = 0

-- how many of the n numbers from a on meet the test p
unfoldable pub count_from : (ℕ → Bool) → ℕ → ℕ → ℕ
count_from p a zero = 0
count_from p a (suc n) = one_if (p a) + count_from p (suc a) n

-- how many numbers below n meet the test p
abbrev pub size_below : (ℕ → Bool) → ℕ → ℕ
size_below p n = count_from p 0 n

-- nothing from `from` on and below `to` meets p
abbrev pub NoneIn : (ℕ → Bool) → ℕ → ℕ → Type 0
NoneIn p from to = (i : ℕ) → from ≤ i → i < to → p i ≡ false

-- v is the least number at or above `from` and below `top` that meets p
pub record LeastFrom (p : ℕ → Bool) (from top v : ℕ) : Type 0 where
  pub above : from ≤ v
  pub below : v < top
  pub member : p v ≡ true
  pub first : NoneIn p from v

-- the answer is that number, or nothing where there is none
abbrev pub NextIs : (ℕ → Bool) → ℕ → ℕ → Option ℕ → Type 0
NextIs p from top (Some v) = LeastFrom p from top v
NextIs p from top None = NoneIn p from top
