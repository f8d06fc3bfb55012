-- Document 02, wish 5: the sets before the first round. What the call begin answers and writes, for a file s and lent words w.
use Rattle.std.specs.Prelude.{ℕ, ◌*◌, ◌<◌, ◌≤◌, ◌≡◌, List, [], ◌∷◌, length, get_or, Result, Ok, Err}
use Rattle.format.specs.Limits.{max_variables}
use Rattle.words.specs.Bit.{word_count}
use Rattle.program.specs.Program.{Program, program}
use Rattle.program.specs.Components.{edge}
use Rattle.program.specs.Reading.{Reads, refused, Whole}
use Rattle.meaning.specs.Calls.{Denial, FirstGiven, NoneGiven, too_short, denial_number, denial_place}
use Rattle.reach.specs.Rows.{row_has}
use Rattle.meaning.specs.declared.Denied.{Denied}

-- an answer: a refusal's number and place, or how many variables have sets
pub data Answer : Type 0 where
  refusal : ℕ → ℕ → Answer
  begun : ℕ → Answer

abbrev pub answer_of : Result ℕ Denied → Answer
answer_of (Err why) = refusal (denial_number why) (denial_place why)
answer_of (Ok n) = begun n

-- the set of each variable holds what an edge leads to; every other word is as it was
pub record AtEdges (P : Program) (w w' : List ℕ) : Type 0 where
  pub long : length w' ≡ length w
  pub is : (x y : ℕ) → x < length P.variables → y < max_variables → row_has w' x y ≡ edge P x y
  pub rest : (i : ℕ) → word_count * length P.variables ≤ i → get_or w' i 0 ≡ get_or w i 0

-- 15: "lent buffer under .. × variables", here of words
abbrev pub short : List ℕ → Program → List Denial
short w P = too_short word_count w P ∷ []

-- the call is turned down: "1; then field by field, each through 2 to 12 upwards"; a file whose fields passed has sets, whether it is accepted or
-- refused with 13; "then 15"
pub data TurnedDown (s w : List ℕ) : ℕ → ℕ → Type 0 where
  bad_field : {n at : ℕ} → Reads s (refused n at) → n ≤ 12 → TurnedDown s w n at
  bad_call : {k n at : ℕ} → Whole s k → FirstGiven (short w (program s k)) n at → TurnedDown s w n at

pub data BeginCall (s w : List ℕ) : Answer → List ℕ → Type 0 where
  turned_down : {n at : ℕ} → TurnedDown s w n at → BeginCall s w (refusal n at) w
  starts : {k : ℕ} {w' : List ℕ} → Whole s k → NoneGiven (short w (program s k)) → AtEdges (program s k) w w'
      → BeginCall s w (begun (length (program s k).variables)) w'
