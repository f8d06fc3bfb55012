-- Document 01, "When a file or call is turned down": what reading a file answers.
use Rattle.std.specs.Prelude.{ℕ, ◌+◌, ◌<◌, ◌≤◌, ◌≡◌, List, [], ◌∷◌, length, Result, Ok, Err}
use Rattle.format.specs.Limits.{max_file}
use Rattle.program.specs.Tables.{◌⇒◌, select}
use Rattle.program.specs.Fields.{place, tag_at}
use Rattle.program.specs.Program.{Program, program}
use Rattle.program.specs.Refusals.{field_refusal}
use Rattle.program.specs.Components.{Valid, FirstOffending}
use Rattle.program.specs.declared.Refusal.{Refusal}
use Rattle.program.specs.declared.Refusal.TheVariants.{FileTooLong, CutShort, UnknownTag, TagBelow, OneTooMany, WrongLength, WrongForm, OutsideRange, Undeclared}
use Rattle.program.specs.declared.Refusal.TheVariants.{WrongCount, VariableTwice, NegativeProduct, NotValid}
use Rattle.program.specs.declared.Counts.{Counts}
use Rattle.program.specs.declared.Rejection.{Rejection}

-- an answer of the call read: the three counts, or a refusal's number and place
pub data Answer : Type 0 where
  accepted : ℕ → ℕ → ℕ → Answer
  refused : ℕ → ℕ → Answer

-- the numbers of the code's refusals
abbrev pub number_of : Refusal → ℕ
number_of FileTooLong = 1
number_of CutShort = 2
number_of UnknownTag = 3
number_of TagBelow = 4
number_of OneTooMany = 5
number_of WrongLength = 6
number_of WrongForm = 7
number_of OutsideRange = 8
number_of Undeclared = 9
number_of WrongCount = 10
number_of VariableTwice = 11
number_of NegativeProduct = 12
number_of NotValid = 13

abbrev pub answer_of : Result Counts Rejection → Answer
answer_of (Ok k) = accepted k.variables k.rules k.constraints
answer_of (Err r) = refused (number_of r.why) r.at

-- one more of the kind that a tag names
unfoldable pub counted : ℕ → Counts → Counts
counted tag k =
    select tag
    ((1 ⇒ record { variables = k.variables + 1; rules = k.rules; constraints = k.constraints })
    ∷ (2 ⇒ record { variables = k.variables; rules = k.rules + 1; constraints = k.constraints })
    ∷ (3 ⇒ record { variables = k.variables; rules = k.rules; constraints = k.constraints + 1 })
    ∷ [])
    k

-- the first k fields stand in the file, and none of them meets a refusal
pub record Passed (s : List ℕ) (k : ℕ) : Type 0 where
  pub short : length s ≤ max_file
  pub stands : (j : ℕ) → j < k → place s j < length s
  pub fine : (j : ℕ) → j < k → field_refusal s j ≡ 0

-- the file has k fields, and none of them meets a refusal
pub record Whole (s : List ℕ) (k : ℕ) : Type 0 where
  pub passed : Passed s k
  pub ended : length s ≤ place s k

-- field k is rule i
pub record RuleField (s : List ℕ) (k i : ℕ) : Type 0 where
  pub tagged : tag_at s (place s k) ≡ 2
  pub number : length (program s k).rules ≡ i

-- "The first refusal ends the reading with its number and place, the offset of the field's tag byte; refusals 1 .. have place 0. Order:
-- .. 1; then field by field, each through 2 to 12 upwards; 13. A file that meets none is accepted with its three counts."
pub data Reads (s : List ℕ) : Answer → Type 0 where
  too_long : max_file < length s → Reads s (refused 1 0)
  bad_field : {k : ℕ} → Passed s k → place s k < length s → 0 < field_refusal s k → Reads s (refused (field_refusal s k) (place s k))
  not_valid : {k j i : ℕ} → Whole s k → j < k → RuleField s j i → FirstOffending (program s k) i → Reads s (refused 13 (place s j))
  whole : {k : ℕ} → Whole s k → Valid (program s k)
      → Reads s (accepted (length (program s k).variables) (length (program s k).rules) (length (program s k).constraints))

-- the file is accepted with these counts
abbrev pub AcceptedAs : List ℕ → Counts → Type 0
AcceptedAs s k = Reads s (accepted k.variables k.rules k.constraints)

-- an accepted file, and the program that it means
pub record Accepts (s : List ℕ) (P : Program) : Type 0 where
  pub fields : ℕ
  pub whole : Whole s fields
  pub means : program s fields ≡ P
  pub valid : Valid P
