-- Document 01: "A file is valid when no rule has a mixed variable in its head's component." What judging a file answers.
use Rattle.std.specs.Prelude.{ℕ, ◌<◌, ◌≡◌, List, Option, Some, None}
use Rattle.program.specs.Fields.{place}
use Rattle.program.specs.Program.{program}
use Rattle.program.specs.Components as components
use Rattle.program.specs.Components.{FirstOffending}
use Rattle.program.specs.Reading.{RuleField}

-- the first rule that offends stands at this place, in a file of k fields
pub record OffendingAt (s : List ℕ) (k at : ℕ) : Type 0 where
  pub field : ℕ
  pub rule : ℕ
  pub before : field < k
  pub is : RuleField s field rule
  pub first : FirstOffending (program s k) rule
  pub placed : at ≡ place s field

abbrev pub Judges : List ℕ → ℕ → Option ℕ → Type 0
Judges s k None = components.Valid (program s k)
Judges s k (Some at) = OffendingAt s k at
