-- The program `flatten`: what it writes for an input s. The input is a nested file; the text is its plain file, or `refused N P` (number, place) in a line of
-- its own, as the printing program has it. The buffer that is lent has 60,000 bytes, so 17 is a plain file over 60,000 bytes.
use Rattle.std.specs.Prelude.{ℕ, ◌<◌, ◌≤◌, List, length}
use Rattle.format.specs.Limits.{max_file}
use Rattle.nested.specs.Nested.{Nested}
use Rattle.nested.specs.NestedReading.{NestedAccepts, NestedRefuses}
use Rattle.nested.specs.FlattenCall.{flat}
use Rattle.verdict.specs.Checks.{refusal}
use Rattle.entries.specs.Text.{answer_line}
use Rattle.text.specs.Output.{Holds}

pub data Unnests (s : List ℕ) : List ℕ → Type 0 where
  turned_down : {n at : ℕ} → NestedRefuses s n at → Unnests s (answer_line (refusal n at))
  too_large : {N : Nested} → NestedAccepts s N → max_file < length (flat N) → Unnests s (answer_line (refusal 17 0))
  unnested : {N : Nested} → NestedAccepts s N → length (flat N) ≤ max_file → Unnests s (flat N)

-- room enough for every text, a refusal's line too
abbrev pub room : ℕ
room = max_file

-- the call leaves the output b as b' and answers n: the length of the text, which b' holds from its first byte on
pub record Unnested (s b : List ℕ) (n : ℕ) (b' : List ℕ) : Type 0 where
  pub text : List ℕ
  pub unnests : Unnests s text
  pub holds : Holds text n b b'
  pub inside : n ≤ length b
