-- Document 02, wish 6: "13 is judged on the plain file, its place in the nested one". What judging a nested file answers.
use Rattle.std.specs.Prelude.{ℕ, ◌*◌, ◌<◌, ◌≤◌, ◌≡◌, List, length, take, Option, Some, None}
use Rattle.program.specs.Fields.{place}
use Rattle.program.specs.Components as components
use Rattle.program.specs.Components.{FirstOffending}
use Rattle.program.specs.Reading.{RuleField}
use Rattle.program.specs.Encode.{each, variable_bytes}
use Rattle.program.specs.declared.Counts.{Counts}
use Rattle.nested.specs.Nested.{nested}
use Rattle.nested.specs.Flatten.{flatten}
use Rattle.nested.specs.NestedReading.{NestedWhole}
use Rattle.plainpart.specs.PlainPart.{PlainCounted}

-- a nested file whose fields pass: its plain part has these counts and ends at `from`, and the fields of all variables of its plain file stand in `records`
pub record Settled (s : List ℕ) (counts : Counts) (from variables : ℕ) (records : List ℕ) : Type 0 where
  pub plain : PlainCounted s counts from
  pub fields : ℕ
  pub whole : NestedWhole s fields
  pub many : variables ≡ length (flatten (nested s fields)).variables
  pub inside : 8 * variables ≤ length records
  pub records_are : take (8 * variables) records ≡ each variable_bytes (flatten (nested s fields)).variables

-- the first rule that offends in the plain file stands at this place of the nested one, which has k fields
pub record OffendingIn (s : List ℕ) (k at : ℕ) : Type 0 where
  pub field : ℕ
  pub rule : ℕ
  pub before : field < k
  pub is : RuleField s field rule
  pub first : FirstOffending (flatten (nested s k)) rule
  pub placed : at ≡ place s field

abbrev pub JudgesNested : List ℕ → ℕ → Option ℕ → Type 0
JudgesNested s k None = components.Valid (flatten (nested s k))
JudgesNested s k (Some at) = OffendingIn s k at
