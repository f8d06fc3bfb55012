-- Document 01, "The rule file": "Tagged fields: one-byte tag, two-byte length, value. Numbers of two bytes are big-endian."
use Rattle.std.specs.Prelude.{ℕ, zero, suc, ◌+◌, List, get_or, take, drop}
use Rattle.format.specs.Numbers.{unsigned_at}

-- a field at an offset
abbrev pub tag_at : List ℕ → ℕ → ℕ
tag_at s at = get_or s at 0

abbrev pub length_at : List ℕ → ℕ → ℕ
length_at s at = unsigned_at s (at + 1)

abbrev pub value_at : List ℕ → ℕ → List ℕ
value_at s at = take (length_at s at) (drop (at + 3) s)

abbrev pub next_at : List ℕ → ℕ → ℕ
next_at s at = at + 3 + length_at s at

-- the place of field k: fields stand one after the other, the first at 0
unfoldable pub place : List ℕ → ℕ → ℕ
place s zero = 0
place s (suc k) = next_at s (place s k)

-- the tag of the field before field k, and 0 before the first
unfoldable pub tag_before : List ℕ → ℕ → ℕ
tag_before s zero = 0
tag_before s (suc k) = tag_at s (place s k)
