-- Document 02, wish 6: "In the nested file a tree is one rule giving its root's value, its leaves plain terms."
use Rattle.std.specs.Prelude.{ℕ, ◌<◌, ◌≡◌, List, [], ◌∷◌, length, get_or, Option, Some, ℤ}
use Rattle.trees.specs.Tree.{leaf, max_levels, leaves}
use Rattle.program.specs.Program.{Rule, variable_in, rule_in}
use Rattle.program.specs.Directions.{away, direction}
use Rattle.program.specs.Readings.{Valuation, reading, gives}
use Rattle.program.specs.declared.Direction.{Direction}
use Rattle.program.specs.declared.Variable.{Variable}
use Rattle.meaning.specs.Founded.{System}
use Rattle.meaning.specs.Reduct.{system}
use Rattle.meaning.specs.Stable.{ConstraintsMet, StableUnder}
use Rattle.nested.specs.Nested.{Rooted, Nested}
use Rattle.nested.specs.Flatten.{node_rule, value_of}

-- past the last tree: a leaf
abbrev pub no_tree : Rooted
no_tree = record { head = 0; tree = leaf 0 }

abbrev pub rooted_in : List Rooted → ℕ → Rooted
rooted_in ts i = get_or ts i no_tree

-- the leaf x of a tree for the head h, as a plain term: the only one of a sum. It goes the same way in max and min
abbrev pub leaf_rule : ℕ → ℕ → Rule
leaf_rule h x = node_rule 1 h (x ∷ [])

-- leaves that are kept are read in m, all others in θ
abbrev pub leaf_reading : List Variable → ℕ → Valuation → Valuation → Valuation
leaf_reading vs h m θ x = reading vs (leaf_rule h x) m θ 0

unfoldable pub tree_gives : List Variable → Rooted → Valuation → Valuation → Option ℤ
tree_gives vs t m θ = Some (value_of max_levels t.tree (leaf_reading vs t.head m θ))

-- the rule of a nested program: one of the file's rules, or a tree
pub data NestedRule : Type 0 where
  rule : ℕ → NestedRule
  tree : ℕ → NestedRule

abbrev pub among : Nested → NestedRule → Type 0
among N (rule i) = i < length N.plain.rules
among N (tree i) = i < length N.trees

abbrev pub head_of : Nested → NestedRule → ℕ
head_of N (rule i) = (rule_in N.plain.rules i).head
head_of N (tree i) = (rooted_in N.trees i).head

-- the variable x stands at a leaf
pub record LeafOf (t : Rooted) (x : ℕ) : Type 0 where
  pub at : ℕ
  pub inside : at < length (leaves max_levels t.tree)
  pub is : get_or (leaves max_levels t.tree) at 0 ≡ x

abbrev pub occurs_in : Nested → NestedRule → ℕ → Direction → Type 0
occurs_in N (rule i) x d = (system N.plain).occurs i x d
occurs_in N (tree i) x d =
    let vs = N.plain.variables in
    LeafOf (rooted_in N.trees i) x × (away (variable_in vs x) (direction vs (leaf_rule (rooted_in N.trees i).head x) 0) ≡ d)

abbrev pub gives_in : Nested → NestedRule → Valuation → Valuation → Option ℤ
gives_in N (rule i) m θ = gives N.plain.variables (rule_in N.plain.rules i) m θ
gives_in N (tree i) m θ = tree_gives N.plain.variables (rooted_in N.trees i) m θ

-- a nested program as a system of the theory
abbrev pub nested_system : Nested → System
nested_system N = record {
  variable = variable_in N.plain.variables;
  Rule = NestedRule;
  In = among N;
  head = head_of N;
  occurs = occurs_in N;
  gives = gives_in N;
}

-- the stable assignments of a nested file, by the definition that serves everywhere
abbrev pub NestedStable : Nested → Valuation → Type 0
NestedStable N = StableUnder (nested_system N) (ConstraintsMet N.plain)
