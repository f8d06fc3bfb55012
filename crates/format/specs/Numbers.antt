-- Document 01, "The rule file": "Numbers of two bytes are big-endian and, in values, two's complement."
use Rattle.std.specs.Prelude.{ℕ, ◌+◌, ◌*◌, ◌/◌, ◌%◌, List, [], ◌∷◌, Bool, ◌||◌, get_or, ℤ, neg_ℤ, pos}
use Rattle.std.specs.Int.Signed.{lt_z}
use Rattle.std.specs.Int.{w16}
use Rattle.std.proofs.Common.{to_z, of_z}

-- the number of two bytes, the high one first
abbrev pub big : ℕ → ℕ → ℕ
big high low = high * 256 + low

-- its two's complement value: below 2 ^ 15 itself, else less 2 ^ 16 (the language's own reading of 16 bits)
abbrev pub signed : ℕ → ℕ → ℤ
signed high low = to_z w16 (big high low)

-- the two bytes of a number in two's complement, the high one first
unfoldable pub bytes_of : ℤ → List ℕ
bytes_of z = of_z w16 z / 256 ∷ of_z w16 z % 256 ∷ []

-- the numbers of the two bytes at i of a list
abbrev pub unsigned_at : List ℕ → ℕ → ℕ
unsigned_at s i = big (get_or s i 0) (get_or s (i + 1) 0)

abbrev pub signed_at : List ℕ → ℕ → ℤ
signed_at s i = signed (get_or s i 0) (get_or s (i + 1) 0)

-- a number lies outside -m..m
unfoldable pub beyond : ℕ → ℤ → Bool
beyond m z = lt_z z (neg_ℤ (pos m)) || lt_z (pos m) z
