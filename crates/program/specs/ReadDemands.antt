-- The mission's first demand, of a call of read with the file s, which answers r: "a file is turned down only under document 01's conditions,
-- with the number and place fixed there".
use Rattle.std.specs.Prelude.{ℕ, ◌<◌, ◌≤◌, ◌≡◌, ◌↔◌, List, length}
use Rattle.format.specs.Limits.{max_file}
use Rattle.program.specs.Fields.{place}
use Rattle.program.specs.Program.{Program, program}
use Rattle.program.specs.Refusals.{field_refusal}
use Rattle.program.specs.Components.{FirstOffending}
use Rattle.program.specs.Reading.{Answer, accepted, refused, Passed, Whole, RuleField, Accepts}

-- some field stands at this place and meets refusal n first, and every field before it meets none
pub record BadField (s : List ℕ) (n at : ℕ) : Type 0 where
  pub field : ℕ
  pub before : Passed s field
  pub stands : place s field < length s
  pub meets : field_refusal s field ≡ n
  pub placed : place s field ≡ at

-- every field of the file is fine, and the field at this place is the first rule that offends
pub record OffendingField (s : List ℕ) (at : ℕ) : Type 0 where
  pub fields : ℕ
  pub field : ℕ
  pub rule : ℕ
  pub fine : Whole s fields
  pub among : field < fields
  pub is_rule : RuleField s field rule
  pub offends : FirstOffending (program s fields) rule
  pub placed : place s field ≡ at

-- that every call returns, for any file, is what it means for `read` to be proved with no `requires`; it is lent no buffer
pub record ReadDemands (s : List ℕ) (r : Answer) : Type 0 where
  -- 1: "file over 60,000 bytes"; "refusals 1 .. have place 0"
  pub over_limit : (at : ℕ) → (r ≡ refused 1 at) ↔ ((max_file < length s) × (at ≡ 0))
  -- 2 to 12: "then field by field, each through 2 to 12 upwards"; "place, the offset of the field's tag byte"
  pub by_field : (n at : ℕ) → 2 ≤ n → n ≤ 12 → (r ≡ refused n at) ↔ BadField s n at
  -- 13: "not valid; place of the first offending rule"
  pub invalid : (at : ℕ) → (r ≡ refused 13 at) ↔ OffendingField s at
  -- reading has no other number
  pub no_other : (n at : ℕ) → r ≡ refused n at → (1 ≤ n) × (n ≤ 13)
  -- "A file that meets none is accepted with its three counts."
  pub accepts : ((n at : ℕ) → r ≡ refused n at → ⊥)
      → (P : Program) × Accepts s P × (r ≡ accepted (length P.variables) (length P.rules) (length P.constraints))
