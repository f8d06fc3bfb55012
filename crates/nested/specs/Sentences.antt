-- Document 02, wish 6: "Each stable assignment of the nested file extends in just one way to the plain one, and none other is stable there."
use Rattle.std.specs.Prelude.{ℕ, ◌+◌, ◌<◌, ◌≤◌, ◌≡◌, ◌↔◌, cond, List, pos, ltb, length}
use Rattle.program.specs.Program.{Program}
use Rattle.program.specs.Readings.{Valuation}
use Rattle.program.specs.Reading.{Accepts}
use Rattle.meaning.specs.Founded.{Model, Least}
use Rattle.meaning.specs.Reduct.{system}
use Rattle.meaning.specs.Stable.{Stable}
use Rattle.nested.specs.Nested.{Nested}
use Rattle.nested.specs.NestedReading.{NestedAccepts}
use Rattle.nested.specs.TreeRefusals.{variables_added, rules_added}
use Rattle.nested.specs.Meaning.{NestedStable}

-- θ' has the values of θ for the first n variables
pub record Extends (n : ℕ) (θ θ' : Valuation) : Type 0 where
  pub same : (v : ℕ) → v < n → θ' v ≡ θ v

-- "extends in just one way to the plain one"
pub record ExtendsOnce (n : ℕ) (Q : Program) (θ : Valuation) : Type 0 where
  pub extension : Valuation
  pub extends : Extends n θ extension
  pub stable : Stable Q extension
  pub only : (θ' : Valuation) → Extends n θ θ' → Stable Q θ' → (v : ℕ) → θ' v ≡ extension v

-- the first n values; past the last variable stands 0
abbrev pub restricted : ℕ → Valuation → Valuation
restricted n θ v = cond (ltb v n) (θ v) (pos 0)

-- the first n values of θ, and those of m from there on
abbrev pub completed : ℕ → Valuation → Valuation → Valuation
completed n θ m v = cond (ltb v n) (θ v) (m v)

-- of a nested program with n variables, and its plain one
pub record SameStable (n : ℕ) (N : Nested) (Q : Program) : Type 0 where
  pub extends_once : (θ : Valuation) → NestedStable N θ → ExtendsOnce n Q θ
  -- "none other is stable there"
  pub none_other : (θ : Valuation) → Stable Q θ → NestedStable N (restricted n θ)
  -- the reduct never reads the value that an added variable is assigned: two assignments that differ in those alone have the same models
  pub never_read : (θ θ' m : Valuation) → Extends n θ θ' → ((v : ℕ) → length Q.variables ≤ v → θ' v ≡ θ v) → Model (system Q) θ m → Model (system Q) θ' m
  -- how a plan of a nested file is checked: with any values for the added variables, the least model has those that belong there
  pub as_checked : (θ θ' m : Valuation) → Extends n θ θ' → Least (system Q) θ' m → NestedStable N (restricted n θ) ↔ Stable Q (completed n θ m)

-- of a nested file s and the bytes o that flatten writes for it
pub record Flattened (s o : List ℕ) : Type 0 where
  pub nested : Nested
  pub plain : Program
  pub input : NestedAccepts s nested
  pub output : Accepts o plain
  -- so many variables are added, and so many rules
  pub more_variables : length plain.variables ≡ length nested.plain.variables + variables_added nested.trees
  pub more_rules : length plain.rules ≡ length nested.plain.rules + rules_added nested.trees
  pub same_stable : SameStable (length nested.plain.variables) nested plain
