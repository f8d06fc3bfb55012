-- Document 02, wish 4: what the call normalize answers and writes, for a file s and a lent buffer b.
use Rattle.std.specs.Prelude.{ℕ, ◌<◌, List, [], ◌∷◌, ◌++◌, length, drop, Result, Ok, Err}
use Rattle.program.specs.Program.{Program}
use Rattle.program.specs.Encode.{encode}
use Rattle.meaning.specs.Calls.{Denial, ◌under◌, Refuses, Called, denial_number, denial_place}
use Rattle.normal.specs.Normal.{Normal}
use Rattle.meaning.specs.declared.Denied.{Denied}

-- an answer: a refusal's number and place, or "the length"
pub data Answer : Type 0 where
  refusal : ℕ → ℕ → Answer
  written : ℕ → Answer

abbrev pub answer_of : Result ℕ Denied → Answer
answer_of (Err why) = refusal (denial_number why) (denial_place why)
answer_of (Ok n) = written n

-- "(Refusal 17, after the file's own: the lent buffer is shorter than the input file.)"
abbrev pub shorter : List ℕ → List ℕ → Program → List Denial
shorter s b P = (17 under (length b < length s)) ∷ []

-- the call's answer, and the buffer afterwards: the normal form's file from its first byte on, and every byte after that as it was
pub data Normalizes (s b : List ℕ) : Answer → List ℕ → Type 0 where
  turned_down : {n at : ℕ} → Refuses (shorter s b) s n at → Normalizes s b (refusal n at) b
  rewritten : {P Q : Program} → Called (shorter s b) s P → Normal P Q
      → Normalizes s b (written (length (encode Q))) (encode Q ++ drop (length (encode Q)) b)
