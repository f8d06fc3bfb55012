-- What the reader promises of an accepted file: its counts, and where its rules and constraints lie.
use Rattle.std.specs.Prelude.{ℕ, ◌+◌, ◌*◌, ◌≤◌, ◌≡◌, List, length}
use Rattle.format.specs.Limits.{max_variables, max_rules, max_constraints}
use Rattle.program.specs.Fields.{place, value_at, next_at}
use Rattle.program.specs.Program.{Program, rule_of, constraint_of, rule_in, constraint_in}
use Rattle.program.specs.Evaluable.{Evaluable, Satisfiable}
use Rattle.parts.specs.Values.{constraint_header, Standing}

-- ---- so many variables, rules and constraints

-- the counts are within the format's limits, and the variables' fields in the file, 8 bytes each
pub record Limited (s : List ℕ) (variables rules constraints : ℕ) : Type 0 where
  pub few_variables : variables ≤ max_variables
  pub few_rules : rules ≤ max_rules
  pub few_constraints : constraints ≤ max_constraints
  pub inside : 8 * variables ≤ length s

-- the counts are the program's
pub record CountsOf (P : Program) (variables rules constraints : ℕ) : Type 0 where
  pub variables_are : length P.variables ≡ variables
  pub rules_are : length P.rules ≡ rules
  pub constraints_are : length P.constraints ≡ constraints

-- ---- places

-- the variables' fields stand first, then the rules', then the constraints'
abbrev pub rule_place : List ℕ → Program → ℕ → ℕ
rule_place s P i = place s (length P.variables + i)

abbrev pub constraint_place : List ℕ → Program → ℕ → ℕ
constraint_place s P i = place s (length P.variables + length P.rules + i)

-- the field at this place is rule i: its variables are declared, and it can be evaluated
pub record RuleLies (s : List ℕ) (P : Program) (i at : ℕ) : Type 0 where
  pub inside : next_at s at ≤ length s
  pub is : rule_in P.rules i ≡ rule_of (value_at s at)
  pub standing : Standing s (length P.variables) (value_at s at)
  pub evaluable : Evaluable (rule_of (value_at s at))

-- the field at this place is constraint i
pub record ConstraintLies (s : List ℕ) (P : Program) (i at : ℕ) : Type 0 where
  pub inside : next_at s at ≤ length s
  pub is : constraint_in P.constraints i ≡ constraint_of (value_at s at)
  pub headed : constraint_header ≤ length (value_at s at)
  pub satisfiable : Satisfiable (constraint_of (value_at s at))
