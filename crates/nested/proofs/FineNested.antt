-- What a nested file whose fields pass says of its program.
use Prim.Native.Nat.{◌+◌, ◌≤◌}
use mathlib.Core.Path.{◌≡◌}
use mathlib.Core.Bool.{false}
use mathlib.Core.List.{List}
use lib.ListN.{length}
use Rattle.format.specs.Limits.{max_variables, max_rules, max_constraints}
use Rattle.trees.specs.Tree.{max_levels, Formed}
use Rattle.program.specs.Program.{variable, rule, constraint}
use Rattle.program.specs.Refusals.{undeclared, variable_twice, item_refusal}
use Rattle.program.specs.Encode.{All}
use Rattle.program.specs.declared.Variable.{Variable}
use Rattle.nested.specs.Nested.{Rooted, Nested}
use Rattle.nested.specs.TreeRefusals.{body_of, variables_added, rules_added, added_outside}

-- a tree that meets no refusal, vs being the declared variables
pub record FineTree (vs : List Variable) (t : Rooted) : Type 0 where
  pub formed : Formed max_levels t.tree
  pub declared : undeclared vs (rule (body_of t)) ≡ false
  pub once : variable_twice (rule (body_of t)) ≡ false
  pub inside : added_outside vs t ≡ false

pub record FineNested (N : Nested) : Type 0 where
  pub few_variables : length N.plain.variables + variables_added N.trees ≤ max_variables
  pub few_rules : length N.plain.rules + rules_added N.trees ≤ max_rules
  pub few_constraints : length N.plain.constraints ≤ max_constraints
  pub fine_variables : All (λ x. item_refusal N.plain.variables (variable x) ≡ 0) N.plain.variables
  pub fine_rules : All (λ r. item_refusal N.plain.variables (rule r) ≡ 0) N.plain.rules
  pub fine_constraints : All (λ k. item_refusal N.plain.variables (constraint k) ≡ 0) N.plain.constraints
  pub fine_trees : All (FineTree N.plain.variables) N.trees
