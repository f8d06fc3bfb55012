-- What the code finds of a field of tag 5, up to refusal 11.
use Rattle.std.specs.Prelude.{ℕ, ◌+◌, ◌≡◌, Bool, true, false, List, length, Result, Ok, Err}
use Rattle.program.specs.Program.{rule}
use Rattle.program.specs.Refusals.{undeclared, variable_twice}
use Rattle.meaning.specs.Calls.{denial_number, denial_place}
use Rattle.nested.specs.Nested.{Rooted, Nested, malformed, treed, treed_of}
use Rattle.nested.specs.Flatten.{added_by}
use Rattle.nested.specs.TreeRefusals.{body_of, variables_added, rules_added, tree_too_many, treed_refusal}
use Rattle.meaning.specs.declared.Denied.{Denied}

-- whether the value is a head and a tree
pub data Shapes (v : List ℕ) : Bool → Type 0 where
  tree : (t : Rooted) → treed_of v ≡ treed t → Shapes v true
  none : treed_of v ≡ malformed → Shapes v false

-- so many variables and rules stand before
pub record Sizes (N : Nested) (variables rules : ℕ) : Type 0 where
  pub variables_are : variables ≡ length N.plain.variables + variables_added N.trees
  pub rules_are : rules ≡ length N.plain.rules + rules_added N.trees

-- the tree meets none of the refusals 18, 5, 9 and 11, and adds so many variables
pub record Sound (N : Nested) (v : List ℕ) (added : ℕ) : Type 0 where
  pub rooted : Rooted
  pub means : treed_of v ≡ treed rooted
  pub room : tree_too_many N rooted ≡ false
  pub declared : undeclared N.plain.variables (rule (body_of rooted)) ≡ false
  pub once : variable_twice (rule (body_of rooted)) ≡ false
  pub adds : added ≡ added_by rooted

abbrev pub Checks : Nested → List ℕ → ℕ → Result ℕ Denied → Type 0
Checks N v at (Ok added) = Sound N v added
Checks N v at (Err why) = (denial_number why ≡ treed_refusal N (treed_of v)) × (denial_place why ≡ at)
