-- Document 02, wish 4: "Outputs are equal exactly when variables and the sets of rules and constraints, so ordered, agree. Writing an output again
-- changes nothing".
use Rattle.std.specs.Prelude.{ℕ, ◌≤◌, ◌≡◌, ◌↔◌, List, ◌++◌, length, take, drop}
use Rattle.program.specs.Program.{Program}
use Rattle.program.specs.Reading.{Accepts}
use Rattle.program.specs.Encode.{Bytes}
use Rattle.normal.specs.Listing.{SameSet}
use Rattle.normal.specs.Normal.{HasRule, HasConstraint, Normal}
use Rattle.normal.specs.Normalizes.{written, Normalizes}

-- "variables and the sets of rules and constraints, so ordered, agree"
pub record Agree (P P' : Program) : Type 0 where
  pub variables : P.variables ≡ P'.variables
  pub rules : SameSet (HasRule P) (HasRule P')
  pub constraints : SameSet (HasConstraint P) (HasConstraint P')

-- a call with a file that means P is not turned down: it answers n, and the first n bytes that it leaves are its output
pub record Writes (P : Program) (output : List ℕ) : Type 0 where
  pub file : List ℕ
  pub bytes : Bytes file
  pub means : Accepts file P
  pub buffer : List ℕ
  pub length_told : ℕ
  pub after : List ℕ
  pub call : Normalizes file buffer (written length_told) after
  pub is : take length_told after ≡ output

-- the output is a file in normal form, and a call with it and any buffer that holds it writes it again
pub record Again (output : List ℕ) : Type 0 where
  pub program : Program
  pub means : Accepts output program
  pub normal : Normal program program
  pub call : (buffer : List ℕ) → length output ≤ length buffer
      → Normalizes output buffer (written (length output)) (output ++ drop (length output) buffer)

pub record Sentences : Type 0 where
  -- "Outputs are equal exactly when variables and the sets of rules and constraints, so ordered, agree."
  pub equal : {P P' : Program} {output output' : List ℕ} → Writes P output → Writes P' output' → (output ≡ output') ↔ Agree P P'
  -- "Writing an output again changes nothing"
  pub again : {P : Program} {output : List ℕ} → Writes P output → Again output
