-- Document 01, "When a file or call is turned down", for a call on a file s: "Order: .. 13; then 14; then 15." After the file's own refusals
-- come those of the call, in the order of a table.
use Rattle.std.specs.Prelude.{ℕ, ◌*◌, ◌<◌, ◌≤◌, ◌≡◌, ◌⊎◌, List, [], ◌∷◌, length, Result, Ok, Err}
use Rattle.program.specs.Program.{Program}
use Rattle.program.specs.Reading.{Reads, refused, accepted, Accepts, number_of}
use Rattle.meaning.specs.declared.Denied.{Denied}
use Rattle.meaning.specs.declared.Denied.TheVariants.{File, Assignment, Buffer, Room, Tree, Added, Ranges}
use Rattle.program.specs.declared.Counts.{Counts}

-- ---- a table of refusals

-- a refusal's number, and of each place whether the refusal is given there
infix 20 ◌placed◌ ◌under◌
pub data Denial : Type 1 where
  ◌placed◌ : ℕ → (ℕ → Type 0) → Denial

-- "Each is given under its condition, never otherwise"; "refusals 1 and 14 to 16 have place 0, as has any later number that belongs to no field
-- and names no other place"
abbrev pub ◌under◌ : ℕ → Type 0 → Denial
n under C = n placed (λ at. C × (at ≡ 0))

-- a refusal is given at no place
abbrev pub Nowhere : (ℕ → Type 0) → Type 0
Nowhere C = (at : ℕ) → C at → ⊥

-- the first refusal of a table that is given has this number and place
abbrev pub FirstGiven : List Denial → ℕ → ℕ → Type 0
FirstGiven [] n at = ⊥
FirstGiven ((m placed C) ∷ rest) n at = ((n ≡ m) × C at) ⊎ (Nowhere C × FirstGiven rest n at)

-- no refusal of a table is given
abbrev pub NoneGiven : List Denial → Type 0
NoneGiven [] = Unit {0}
NoneGiven ((m placed C) ∷ rest) = Nowhere C × NoneGiven rest

-- ---- a call whose refusals after the file's are those of a table, which reads the file's program

-- the call is turned down with this number and place
pub data Refuses (table : Program → List Denial) (s : List ℕ) : ℕ → ℕ → Type 0 where
  bad_file : {n at : ℕ} → Reads s (refused n at) → Refuses table s n at
  bad_call : {P : Program} {n at : ℕ} → Accepts s P → FirstGiven (table P) n at → Refuses table s n at

-- the call is not turned down, and the file means P
pub record Called (table : Program → List Denial) (s : List ℕ) (P : Program) : Type 0 where
  pub accepts : Accepts s P
  pub passes : NoneGiven (table P)

-- ---- the lengths of an assignment a and a lent buffer b

-- 14: "assignment length is not 2 × variables", at so many bytes for each variable
abbrev pub not_exact : ℕ → List ℕ → Program → Denial
not_exact bytes a P = 14 under (length a ≡ bytes * length P.variables → ⊥)

-- 15: "lent buffer under 12 × variables (check) or 2 × variables (least)", likewise
abbrev pub too_short : ℕ → List ℕ → Program → Denial
too_short bytes b P = 15 under (length b < bytes * length P.variables)

-- the refusals of a call that takes both, and asks so many bytes of its buffer for each variable
abbrev pub lengths : ℕ → List ℕ → List ℕ → Program → List Denial
lengths bytes a b P = not_exact 2 a P ∷ too_short bytes b P ∷ []

-- ---- the code's answers

abbrev pub denial_number : Denied → ℕ
denial_number (File why at) = number_of why
denial_number Assignment = 14
denial_number Buffer = 15
denial_number Room = 17
denial_number (Tree at) = 18
denial_number (Added at) = 19
denial_number Ranges = 20

abbrev pub denial_place : Denied → ℕ
denial_place (File why at) = at
denial_place Assignment = 0
denial_place Buffer = 0
denial_place Room = 0
denial_place (Tree at) = at
denial_place (Added at) = at
denial_place Ranges = 0

-- a call's opening says that it is turned down, and why, or the counts of its file
abbrev pub Opened : ℕ → List ℕ → List ℕ → List ℕ → Result Counts Denied → Type 0
Opened bytes s a b (Err why) = Refuses (lengths bytes a b) s (denial_number why) (denial_place why)
Opened bytes s a b (Ok k) =
    Reads s (accepted k.variables k.rules k.constraints) × (length a ≡ 2 * k.variables) × (bytes * k.variables ≤ length b)
