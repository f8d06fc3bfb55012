-- A set of variables for each variable, as rows of one list of words: the set of variable i is row i.
use Rattle.std.specs.Prelude.{ℕ, ◌+◌, ◌*◌, ◌/◌, ◌%◌, ◌<◌, ◌≡◌, Bool, ◌||◌, ◌&&◌, List, eqb, get_or}
use Rattle.format.specs.Limits.{max_variables}
use Rattle.words.specs.Bit.{word_bits, word_count, bit}

-- the words of all rows that a file can need
abbrev pub rows_length : ℕ
rows_length = max_variables * word_count

-- whether row i has j
unfoldable pub row_has : List ℕ → ℕ → ℕ → Bool
row_has ws i j = bit (get_or ws (word_count * i + j / word_bits) 0) (j % word_bits)

-- r' is r where row i has taken in v
pub record Marked (r r' : ℕ → ℕ → Bool) (i v : ℕ) : Type 0 where
  pub is : (a b : ℕ) → a < max_variables → b < max_variables → r' a b ≡ ((eqb a i && eqb b v) || r a b)

-- r' is r where row i has taken in v, if the test says so
pub record MarkedWhere (test : Bool) (r r' : ℕ → ℕ → Bool) (i v : ℕ) : Type 0 where
  pub is : (a b : ℕ) → a < max_variables → b < max_variables → r' a b ≡ ((test && (eqb a i && eqb b v)) || r a b)

-- r' is r where row i has taken in row k
pub record Joined (r r' : ℕ → ℕ → Bool) (i k : ℕ) : Type 0 where
  pub is : (a b : ℕ) → b < max_variables → r' a b ≡ (r a b || (eqb a i && r k b))
