-- Document 01, "Reduct and least model": what the call least answers and writes.
use Rattle.std.specs.Prelude.{ℕ, zero, suc, ◌*◌, ◌<◌, ◌≡◌, true, false, List, [], ◌++◌, length, drop, Result, Ok, Err}
use Rattle.format.specs.Numbers.{bytes_of}
use Rattle.program.specs.Program.{Program, variable_in}
use Rattle.program.specs.Variables.{in_range}
use Rattle.program.specs.Readings.{Valuation}
use Rattle.meaning.specs.Founded.{Model, Least}
use Rattle.meaning.specs.Reduct.{system}
use Rattle.meaning.specs.Stable.{assigned}
use Rattle.meaning.specs.Calls.{Refuses, Called, lengths, denial_number, denial_place}
use Rattle.meaning.specs.declared.Denied.{Denied}
use Rattle.meaning.specs.declared.Solved.{Solved}
use Rattle.meaning.specs.declared.Solved.TheVariants as solved

-- an answer of the call least, with document 01's words
pub data Answer : Type 0 where
  refusal : ℕ → ℕ → Answer
  range : ℕ → Answer
  none found : Answer

-- the word, number and place of each case of the code's answer
abbrev pub answer_of : Result Solved Denied → Answer
answer_of (Err why) = refusal (denial_number why) (denial_place why)
answer_of (Ok (solved.Range v)) = range v
answer_of (Ok solved.Nothing) = none
answer_of (Ok solved.Found) = found

-- v is the first variable that is assigned outside its range
pub record FirstOutside (P : Program) (θ : Valuation) (v : ℕ) : Type 0 where
  pub declared : v < length P.variables
  pub outside : in_range (variable_in P.variables v) (θ v) ≡ false
  pub first : (u : ℕ) → u < v → in_range (variable_in P.variables u) (θ u) ≡ true

abbrev pub AllInside : Program → Valuation → Type 0
AllInside P θ = (v : ℕ) → v < length P.variables → in_range (variable_in P.variables v) (θ v) ≡ true

-- "writes 2 bytes per variable", for the first n variables
unfoldable pub written : Valuation → ℕ → List ℕ
written m zero = []
written m (suc n) = written m n ++ bytes_of (m n)

-- "lent buffer under .. 2 × variables (least)"
abbrev pub least_bytes : ℕ
least_bytes = 2

-- what the call answers for a file, an assignment and a lent buffer, and the buffer afterwards. "Only this last case writes, and only those
-- bytes."
pub data LeastCall (s a b : List ℕ) : Answer → List ℕ → Type 0 where
  turned_down : {n at : ℕ} → Refuses (lengths least_bytes a b) s n at → LeastCall s a b (refusal n at) b
  outside : {P : Program} {v : ℕ} → Called (lengths least_bytes a b) s P → FirstOutside P (assigned a) v → LeastCall s a b (range v) b
  no_model : {P : Program} → Called (lengths least_bytes a b) s P → AllInside P (assigned a) → ((m : Valuation) → Model (system P) (assigned a) m → ⊥)
      → LeastCall s a b none b
  least_model : {P : Program} {m : Valuation} → Called (lengths least_bytes a b) s P → AllInside P (assigned a) → Least (system P) (assigned a) m
      → LeastCall s a b found (written m (length P.variables) ++ drop (2 * length P.variables) b)
