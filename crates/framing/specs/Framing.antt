-- Document 01, "The printing program": the framing of an input s. The program `bounds` has the same, with the ranges for the assignment and another limit.
use Rattle.std.specs.Prelude.{ℕ, ◌+◌, List, Bool, ◌||◌, ltb, length, take, drop}
use Rattle.format.specs.Numbers.{unsigned_at}

-- "two bytes for the file's length, the file, the assignment to the end"; or the ranges
abbrev pub announced : List ℕ → ℕ
announced s = unsigned_at s 0

abbrev pub file_in : List ℕ → List ℕ
file_in s = take (announced s) (drop 2 s)

abbrev pub rest_in : List ℕ → List ℕ
rest_in s = drop (2 + announced s) s

-- "Refusal 16: under 2 bytes, fewer file bytes than announced, or over 61,000 in all.", with the limit `most`
abbrev pub framing_number : ℕ
framing_number = 16

unfoldable pub misframed : ℕ → List ℕ → Bool
misframed most s = ltb (length s) 2 || ltb (length s) (2 + announced s) || ltb most (length s)
