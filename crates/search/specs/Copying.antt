-- A copy of words.
use Rattle.std.specs.Prelude.{ℕ, ◌<◌, ◌≤◌, ◌≡◌, List, length, get_or}

-- the first n words are those of the rows; the others are as they were
pub record Copied (rows w w' : List ℕ) (n : ℕ) : Type 0 where
  pub long : length w' ≡ length w
  pub first : (i : ℕ) → i < n → get_or w' i 0 ≡ get_or rows i 0
  pub rest : (i : ℕ) → n ≤ i → get_or w' i 0 ≡ get_or w i 0
