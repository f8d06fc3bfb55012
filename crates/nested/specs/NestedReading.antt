-- Document 02, wish 6: what reading a nested file finds. "13 is judged on the plain file, its place in the nested one".
use Rattle.std.specs.Prelude.{ℕ, ◌<◌, ◌≤◌, ◌≡◌, List, length}
use Rattle.format.specs.Limits.{max_file}
use Rattle.program.specs.Fields.{place}
use Rattle.program.specs.Components.{Valid, FirstOffending}
use Rattle.program.specs.Reading.{RuleField}
use Rattle.nested.specs.Nested.{Nested, nested}
use Rattle.nested.specs.Flatten.{flatten}
use Rattle.nested.specs.TreeRefusals.{nested_refusal}

-- the first k fields stand in the file, and none of them meets a refusal
pub record NestedPassed (s : List ℕ) (k : ℕ) : Type 0 where
  pub short : length s ≤ max_file
  pub stands : (j : ℕ) → j < k → place s j < length s
  pub fine : (j : ℕ) → j < k → nested_refusal s j ≡ 0

-- the file has k fields, and none of them meets a refusal
pub record NestedWhole (s : List ℕ) (k : ℕ) : Type 0 where
  pub passed : NestedPassed s k
  pub ended : length s ≤ place s k

-- an accepted nested file, and the nested program that it means
pub record NestedAccepts (s : List ℕ) (N : Nested) : Type 0 where
  pub fields : ℕ
  pub whole : NestedWhole s fields
  pub means : nested s fields ≡ N
  pub valid : Valid (flatten N)

-- the file's own refusals: 1; field by field; 13
pub data NestedRefuses (s : List ℕ) : ℕ → ℕ → Type 0 where
  too_long : max_file < length s → NestedRefuses s 1 0
  bad_field : {k : ℕ} → NestedPassed s k → place s k < length s → 0 < nested_refusal s k → NestedRefuses s (nested_refusal s k) (place s k)
  not_valid : {k j i : ℕ} → NestedWhole s k → j < k → RuleField s j i → FirstOffending (flatten (nested s k)) i → NestedRefuses s 13 (place s j)
