-- How an answer is packed in a number for C: the word in bits 0 to 7, then three numbers of 16 bits at bits 8, 24 and 40. The numbers are
-- those that the printing program prints after the word, an accepted file's three counts, or the variables that have sets, and 0 where there is none. The word `written` has
-- a length of 32 bits, in bits 8 to 39: its low half is the first number, its high half the second. No answer is 0.
--
--   1 stable   2 unfounded   3 constraint   4 rule   5 range   6 refused   7 accepted   8 found   9 none   10 written   11 begun
--   12 bounded
use Rattle.std.specs.Prelude.{ℕ, ◌+◌, ◌*◌, ◌/◌, ◌%◌, ◌<◌}
use Rattle.program.specs.Reading as read
use Rattle.meaning.specs.LeastCall as least
use Rattle.verdict.specs.Checks as check
use Rattle.normal.specs.Normalizes as normalize
use Rattle.search.specs.BeginCall as begin
use Rattle.lent.specs.BoundsCall as bounds
use Rattle.packing.specs.declared.Parts.{Parts}

abbrev pub parts : ℕ → ℕ → ℕ → ℕ → Parts
parts w a b c = record { word = w; first = a; second = b; third = c }

-- each part fits its bits
pub record Fits (p : Parts) : Type 0 where
  pub word : p.word < 256
  pub first : p.first < 65536
  pub second : p.second < 65536
  pub third : p.third < 65536

unfoldable pub packed : Parts → ℕ
packed p = p.word + 256 * (p.first + 65536 * (p.second + 65536 * p.third))

unfoldable pub unpacked : ℕ → Parts
unpacked r = parts (r % 256) (r / 256 % 65536) (r / 16777216 % 65536) (r / 1099511627776 % 65536)

-- the length in a packed answer with the word `written`
unfoldable pub length_in : ℕ → ℕ
length_in r = r / 256 % 4294967296

-- ---- the word and the numbers of each answer

abbrev pub read_parts : read.Answer → Parts
read_parts (read.accepted v r c) = parts 7 v r c
read_parts (read.refused n at) = parts 6 n at 0

abbrev pub least_parts : least.Answer → Parts
least_parts (least.refusal n at) = parts 6 n at 0
least_parts (least.range v) = parts 5 v 0 0
least_parts least.none = parts 9 0 0 0
least_parts least.found = parts 8 0 0 0

abbrev pub check_parts : check.Answer → Parts
check_parts (check.refusal n at) = parts 6 n at 0
check_parts (check.range v) = parts 5 v 0 0
check_parts (check.rule i) = parts 4 i 0 0
check_parts (check.constraint i) = parts 3 i 0 0
check_parts (check.unfounded n k) = parts 2 n k 0
check_parts check.stable = parts 1 0 0 0

-- so many bytes are written
abbrev pub length_parts : ℕ → Parts
length_parts n = parts 10 (n % 65536) (n / 65536) 0

abbrev pub normalize_parts : normalize.Answer → Parts
normalize_parts (normalize.refusal n at) = parts 6 n at 0
normalize_parts (normalize.written n) = length_parts n

abbrev pub begin_parts : begin.Answer → Parts
begin_parts (begin.refusal n at) = parts 6 n at 0
begin_parts (begin.begun n) = parts 11 n 0 0

abbrev pub bounds_parts : bounds.Answer → Parts
bounds_parts (bounds.refusal n at) = parts 6 n at 0
bounds_parts bounds.bounded = parts 12 0 0 0
