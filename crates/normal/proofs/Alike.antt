-- Rules and constraints that read alike, and programs of such: what the theory, the reader and the report see of them is the same.
use Prim.Native.Nat.{ℕ, ◌<◌}
use mathlib.Core.Path.{◌≡◌}
use mathlib.Core.Logic.{◌↔◌}
use mathlib.Core.List.{List}
use lib.ListN.{length}
use Rattle.program.specs.Program.{Program, Rule, Constraint, term_in, rule_in, constraint_in}
use Rattle.program.specs.Directions.{direction}
use Rattle.program.specs.Evaluate.{satisfied}
use Rattle.program.specs.Readings.{Valuation, body_variable, gives}
use Rattle.program.specs.Idle.{is_idle}
use Rattle.program.specs.declared.Direction.{Direction}
use Rattle.program.specs.declared.Variable.{Variable}

-- the variable x stands at a position of the body that pushes this way
pub record Stands (vs : List Variable) (r : Rule) (x : ℕ) (d : Direction) : Type 0 where
  pub at : ℕ
  pub inside : at < length r.terms
  pub is : body_variable r at ≡ x
  pub pushes : direction vs r at ≡ d

pub record AlikeRule (vs : List Variable) (r q : Rule) : Type 0 where
  pub head : q.head ≡ r.head
  pub given : (m θ : Valuation) → gives vs q m θ ≡ gives vs r m θ
  pub idle : is_idle vs q ≡ is_idle vs r
  pub stands : (x : ℕ) (d : Direction) → Stands vs r x d ↔ Stands vs q x d

pub record AlikeConstraint (k l : Constraint) : Type 0 where
  pub asks : (θ : Valuation) → satisfied l (λ j. θ (term_in l.terms j).variable) ≡ satisfied k (λ j. θ (term_in k.terms j).variable)

-- the same variables, and for each rule and constraint of the one an alike one of the other
pub record AlikePrograms (P Q : Program) : Type 0 where
  pub variables : Q.variables ≡ P.variables
  pub rules : (i : ℕ) → i < length P.rules → (j : ℕ) × (j < length Q.rules) × AlikeRule P.variables (rule_in P.rules i) (rule_in Q.rules j)
  pub rules_back : (j : ℕ) → j < length Q.rules → (i : ℕ) × (i < length P.rules) × AlikeRule P.variables (rule_in P.rules i) (rule_in Q.rules j)
  pub constraints : (i : ℕ) → i < length P.constraints
      → (j : ℕ) × (j < length Q.constraints) × AlikeConstraint (constraint_in P.constraints i) (constraint_in Q.constraints j)
  pub constraints_back : (j : ℕ) → j < length Q.constraints
      → (i : ℕ) × (i < length P.constraints) × AlikeConstraint (constraint_in P.constraints i) (constraint_in Q.constraints j)
