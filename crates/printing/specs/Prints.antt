-- Document 01, "The printing program": the text that is printed for an input.
use Rattle.std.specs.Prelude.{ℕ, ◌+◌, ◌*◌, ◌≤◌, List, not, T, replicate}
use Rattle.format.specs.Limits.{max_variables}
use Rattle.verdict.specs.Checks.{Answer, refusal, check_bytes, Checks}
use Rattle.entries.specs.Text.{text_of, first_most, entry_most}
use Rattle.text.specs.Output.{Holds}
use Rattle.framing.specs.Framing.{file_in, rest_in, framing_number, misframed}

-- "over 61,000 in all"
abbrev pub max_input : ℕ
max_input = 61000

-- the report that the program lends the check: room for every entry, each byte 0
abbrev pub report_bytes : ℕ
report_bytes = check_bytes * max_variables

abbrev pub blank : List ℕ
blank = replicate report_bytes 0

-- the text that is printed for an input; "Order: 16, in the program alone; 1; .." The rest of the input, after the file, is the assignment
pub data Prints (s : List ℕ) : List ℕ → Type 0 where
  bad_frame : T (misframed max_input s) → Prints s (text_of (refusal framing_number 0) blank)
  checked : {r : Answer} {b : List ℕ} → T (not (misframed max_input s)) → Checks (file_in s) (rest_in s) blank r b → Prints s (text_of r b)

-- room enough for every text: a first line, and a line for each of at most 3 entries a variable
abbrev pub room : ℕ
room = first_most + entry_most * (3 * max_variables)

-- the call leaves the output b as b' and answers n: the length of the text, which b' holds from its first byte on as far as there is room
pub record Printed (s b : List ℕ) (n : ℕ) (b' : List ℕ) : Type 0 where
  pub text : List ℕ
  pub prints : Prints s text
  pub holds : Holds text n b b'
  pub short : n ≤ room

-- the same for a file f and an assignment a whose framing is right
pub record Told (f a b : List ℕ) (n : ℕ) (b' : List ℕ) : Type 0 where
  pub answer : Answer
  pub report : List ℕ
  pub checks : Checks f a blank answer report
  pub holds : Holds (text_of answer report) n b b'
  pub short : n ≤ room
