-- Document 02, wish 7: what the call bounds answers and writes, for a file s, lent ranges g and a lent buffer b.
use Rattle.std.specs.Prelude.{ℕ, ◌*◌, ◌<◌, ◌≡◌, false, List, [], ◌∷◌, ◌++◌, length, drop, Result, Ok, Err}
use Rattle.program.specs.Program.{Program, variable_in}
use Rattle.program.specs.Readings.{Valuation}
use Rattle.meaning.specs.Calls.{Denial, ◌under◌, Refuses, Called, not_exact, too_short, denial_number, denial_place}
use Rattle.meaning.specs.LeastCall.{least_bytes, written}
use Rattle.lent.specs.Ranges.{low_in, high_in, fits}
use Rattle.lent.specs.Lent.{Bounds}
use Rattle.meaning.specs.declared.Denied.{Denied}

-- an answer: a refusal's number and place, or that the bounds are written
pub data Answer : Type 0 where
  refusal : ℕ → ℕ → Answer
  bounded : Answer

abbrev pub answer_of : Result (Unit {0}) Denied → Answer
answer_of (Err why) = refusal (denial_number why) (denial_place why)
answer_of (Ok _) = bounded

-- "Ranges come as low and high, 4 bytes a variable"
abbrev pub range_bytes : ℕ
range_bytes = 4

-- "a range leaves its declared one or is empty"
pub record SomeUnfit (P : Program) (low high : Valuation) : Type 0 where
  pub variable : ℕ
  pub declared : variable < length P.variables
  pub unfit : fits (variable_in P.variables variable) (low variable) (high variable) ≡ false

-- "refusals 14 and 15 read so"; "(Refusal 20, between 14 and 15: a range leaves its declared one or is empty.)"
abbrev pub turned : List ℕ → List ℕ → Program → List Denial
turned g b P = not_exact range_bytes g P ∷ (20 under (SomeUnfit P (low_in g) (high_in g))) ∷ too_short least_bytes b P ∷ []

-- the call's answer, and the buffer afterwards: "bounds go out as the least model does, standard ones as their range's low", and every byte after them is as it was
pub data BoundsCall (s g b : List ℕ) : Answer → List ℕ → Type 0 where
  turned_down : {n at : ℕ} → Refuses (turned g b) s n at → BoundsCall s g b (refusal n at) b
  within_bounds : {P : Program} {m : Valuation} → Called (turned g b) s P → Bounds P (low_in g) (high_in g) m
      → BoundsCall s g b bounded (written m (length P.variables) ++ drop (2 * length P.variables) b)
