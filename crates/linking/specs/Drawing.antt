-- What the code marks: the edges that rules draw. The rules of trees are over variables whose fields, 8 bytes each, stand in a list of their own.
use Rattle.std.specs.Prelude.{ℕ, ◌*◌, ◌<◌, ◌≤◌, ◌≡◌, List, Bool, nat_abs, length}
use Rattle.format.specs.Limits.{max_variables, max_number}
use Rattle.program.specs.Tables.{any_below}
use Rattle.program.specs.Program.{Rule, rule_in, variable_in, variables_at}
use Rattle.program.specs.Encode.{All}
use Rattle.program.specs.declared.Variable.{Variable}
use Rattle.reach.specs.Rows.{row_has}
use Rattle.edges.specs.Edges.{Grown}
use Rattle.validity.specs.Marks.{draws_by}
use Rattle.nested.specs.Nested.{trees}
use Rattle.nested.specs.Flatten.{node_rule, added_rules}
use Rattle.nested.specs.NestedReading.{NestedWhole}
use Rattle.nested.proofs.TreeRules.{FineNode}

-- the edges of these rules, vs being the variables
unfoldable pub drawn_by : List Variable → List Rule → ℕ → ℕ → Bool
drawn_by vs rs x y = any_below (length rs) (λ i. draws_by vs (rule_in rs i) x y)

-- the rows w have become w' by the edges of these rules
abbrev pub GrownBy : List ℕ → List ℕ → List Variable → List Rule → Type 0
GrownBy w w' vs rs = Grown (row_has w) (row_has w') (drawn_by vs rs)

-- by those of all trees of the file s, n variables being declared
pub record TreesMarked (s : List ℕ) (n : ℕ) (vs : List Variable) (w w' : List ℕ) : Type 0 where
  pub is : (k : ℕ) → NestedWhole s k → GrownBy w w' vs (added_rules n (trees s k))

-- the fields of n variables stand in these bytes, and the ends of their ranges are small
pub record Recorded (s : List ℕ) (n : ℕ) : Type 0 where
  pub inside : 8 * n ≤ length s
  pub few : n ≤ max_variables
  pub low_small : (x : ℕ) → x < n → nat_abs (variable_in (variables_at s n) x).low ≤ max_number
  pub high_small : (x : ℕ) → x < n → nat_abs (variable_in (variables_at s n) x).high ≤ max_number

-- over them, a rule meets no refusal, and its form is that of a node
abbrev pub FineRule : List ℕ → ℕ → Rule → Type 0
FineRule s n r = FineNode (variables_at s n) r

-- a node's rule, over these variables
pub record NodeValue (vs : List Variable) (r : Rule) : Type 0 where
  pub form : ℕ
  pub head : ℕ
  pub operands : List ℕ
  pub is : r ≡ node_rule form head operands
  pub fine : FineNode vs r

abbrev pub FineRules : List ℕ → ℕ → List Rule → Type 0
FineRules s n rs = All (FineRule s n) rs
