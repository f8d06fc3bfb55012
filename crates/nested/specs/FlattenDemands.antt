-- The mission's first demand, of a call of flatten with the nested file s and the lent buffer b, which answers r and leaves the buffer as b'.
use Rattle.std.specs.Prelude.{ℕ, ◌<◌, ◌≤◌, ◌≡◌, ◌↔◌, List, length, drop}
use Rattle.format.specs.Limits.{max_file}
use Rattle.program.specs.Fields.{place}
use Rattle.program.specs.Components.{FirstOffending}
use Rattle.program.specs.Reading.{RuleField}
use Rattle.normal.specs.Normalizes.{Answer, refusal, written}
use Rattle.nested.specs.Nested.{Nested, nested}
use Rattle.nested.specs.Flatten.{flatten}
use Rattle.nested.specs.TreeRefusals.{nested_refusal}
use Rattle.nested.specs.NestedReading.{NestedPassed, NestedWhole, NestedAccepts}
use Rattle.nested.specs.FlattenCall.{flat, NoRoom}

-- some field stands at this place and meets refusal n first, and every field before it meets none
pub record BadTreeField (s : List ℕ) (n at : ℕ) : Type 0 where
  pub field : ℕ
  pub before : NestedPassed s field
  pub stands : place s field < length s
  pub meets : nested_refusal s field ≡ n
  pub placed : place s field ≡ at

-- every field of the file is fine, and the rule at this place is the first that offends in the plain file
pub record OffendingRule (s : List ℕ) (at : ℕ) : Type 0 where
  pub fields : ℕ
  pub field : ℕ
  pub rule : ℕ
  pub fine : NestedWhole s fields
  pub among : field < fields
  pub is_rule : RuleField s field rule
  pub offends : FirstOffending (flatten (nested s fields)) rule
  pub placed : place s field ≡ at

-- the file is accepted, and its plain file finds no room
pub record Roomless (s b : List ℕ) : Type 0 where
  pub program : Nested
  pub accepts : NestedAccepts s program
  pub without : NoRoom (flat program) b

-- that every call returns, for any file and lent buffer, is what it means for `flatten` to be proved with no `requires`
pub record FlattenDemands (s b : List ℕ) (r : Answer) (b' : List ℕ) : Type 0 where
  -- 1: "file over 60,000 bytes", the nested one
  pub over_limit : (at : ℕ) → (r ≡ refusal 1 at) ↔ ((max_file < length s) × (at ≡ 0))
  -- 13: "judged on the plain file, its place in the nested one"
  pub invalid : (at : ℕ) → (r ≡ refusal 13 at) ↔ OffendingRule s at
  -- 17: "an output over 60,000 bytes or the buffer"
  pub roomless : (at : ℕ) → (r ≡ refusal 17 at) ↔ (Roomless s b × (at ≡ 0))
  -- every other number belongs to a field
  pub by_field : (n at : ℕ) → (n ≡ 1 → ⊥) → (n ≡ 13 → ⊥) → (n ≡ 17 → ⊥) → (r ≡ refusal n at) ↔ (BadTreeField s n at × (0 < n))
  -- "a refusal leaves every buffer untouched"
  pub untouched : (n at : ℕ) → r ≡ refusal n at → b' ≡ b
  -- what is written fits in the buffer, and every byte after it is as it was
  pub short : (n : ℕ) → r ≡ written n → n ≤ max_file
  pub inside : (n : ℕ) → r ≡ written n → n ≤ length b
  pub fits : (n : ℕ) → r ≡ written n → length b' ≡ length b
  pub rest : (n : ℕ) → r ≡ written n → drop n b' ≡ drop n b
  -- a nested file that is not turned down grows, or keeps its bytes where it has no tree
  pub grows : (n : ℕ) → r ≡ written n → length s ≤ n
