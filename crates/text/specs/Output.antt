-- A text that is written into a lent output, as far as there is room.
use Rattle.std.specs.Prelude.{ℕ, ◌+◌, ◌≡◌, List, ◌++◌, length, take, drop}

-- the output b' is b with the text t, of n bytes, from its first byte on: the bytes of t that b has room for, then those of b after them
pub record Holds (t : List ℕ) (n : ℕ) (b b' : List ℕ) : Type 0 where
  pub counted : n ≡ length t
  pub bytes : b' ≡ take (length b) t ++ drop n b

-- b' is b with `more` after a text of `at` bytes, and the text then has r bytes
pub record Appends (more : List ℕ) (at r : ℕ) (b b' : List ℕ) : Type 0 where
  pub next : r ≡ at + length more
  pub holds : (t b₀ : List ℕ) → Holds t at b₀ b → Holds (t ++ more) r b₀ b'
