-- Document 02, wish 6: "Convert to a plain file .. by document 003's flattening: the root's rule heads into the head; a leaf root is a sum of one; children keep
-- their order. Each other inner node becomes a variable of the head's kind with the exact range of its values. New variables follow the old, trees in file order
-- and nodes as they stand in the tree; new rules follow the old so too, each root's before its tree's. c is 0 and coefficients are 1."
use Rattle.std.specs.Prelude.{ℕ, zero, suc, ◌+◌, List, [], ◌∷◌, ◌++◌, map, ℤ, pos, length, get_or}
use Rattle.trees.specs.Tree.{Tree, leaf, inner, max_levels, joined, inners, besides}
use Rattle.program.specs.Tables.{◌⇒◌, select}
use Rattle.program.specs.Program.{Rule, Program, variable_in}
use Rattle.program.specs.Evaluate.{amount_of}
use Rattle.program.specs.Readings.{Valuation}
use Rattle.program.specs.Idle.{lows, highs}
use Rattle.program.specs.declared.Variable.{Variable}
use Rattle.program.specs.declared.Term.{Term}
use Rattle.nested.specs.Nested.{Rooted, Nested}

-- ---- one node as a plain rule: its byte is the form

-- "c is 0 and coefficients are 1": only form 1 has coefficients
abbrev pub node_term : ℕ → ℕ → Term
node_term form x = record { variable = x; op = 0; number = select form ((1 ⇒ pos 1) ∷ []) (pos 0) }

abbrev pub node_rule : ℕ → ℕ → List ℕ → Rule
node_rule form h xs = record { form = form; head = h; c = pos 0; divisor = []; terms = map (node_term form) xs }

-- what a node of this form gives for the values of its children
unfoldable pub node_gives : ℕ → List ℤ → ℤ
node_gives form values = amount_of form (pos 0) (pos 1) (map (λ a. node_term form 0) values) (λ i. get_or values i (pos 0))

-- a tree's value
unfoldable pub value_of : (l : ℕ) → Tree l → Valuation → ℤ
value_of zero t a = elim t [ ]
value_of (suc l) (leaf x) a = a x
value_of (suc l) (inner form ts) a = node_gives form (map (λ t. value_of l t a) ts)

-- ---- what each inner node has, "as they stand in the tree": a node before its children, a child's whole subtree before the next child

-- the values of a tree's inner nodes
unfoldable pub inner_values : (l : ℕ) → Valuation → Tree l → List ℤ
inner_values zero a t = elim t [ ]
inner_values (suc l) a (leaf x) = []
inner_values (suc l) a (inner form ts) = value_of (suc l) (inner form ts) a ∷ joined (inner_values l a) ts

-- their variables: "of the head's kind with the exact range of its values", which runs from the value with all leaves at their lows to that with all at
-- their highs (law `exact_range`); vs are the declared variables
unfoldable pub inner_variables : (l : ℕ) → List Variable → ℕ → Tree l → List Variable
inner_variables zero vs kind t = elim t [ ]
inner_variables (suc l) vs kind (leaf x) = []
inner_variables (suc l) vs kind (inner form ts) =
    record { kind = kind; low = value_of (suc l) (inner form ts) (lows vs); high = value_of (suc l) (inner form ts) (highs vs) } ∷ joined (inner_variables l vs kind) ts

-- along a list, n being the first number that is free, and each element taking as many as `size` says
unfoldable pub along : {A B : Type 0} → (A → ℕ) → (ℕ → A → List B) → ℕ → List A → List B
along size f n [] = []
along size f n (x ∷ xs) = f n x ++ along size f (n + size x) xs

-- the variable that stands for a child: a leaf's own, or the added one, which is n
abbrev pub operand : (l : ℕ) → ℕ → Tree l → List ℕ
operand zero n t = elim t [ ]
operand (suc l) n (leaf x) = x ∷ []
operand (suc l) n (inner form ts) = n ∷ []

abbrev pub operands : (l : ℕ) → ℕ → List (Tree l) → List ℕ
operands l n ts = along (inners l) (operand l) n ts

-- the rules of a tree's inner nodes: the first heads into n
unfoldable pub inner_rules : (l : ℕ) → ℕ → Tree l → List Rule
inner_rules zero n t = elim t [ ]
inner_rules (suc l) n (leaf x) = []
inner_rules (suc l) n (inner form ts) = node_rule form n (operands l (suc n) ts) ∷ along (inners l) (inner_rules l) (suc n) ts

-- ---- a tree with its head: the root is no variable

unfoldable pub root_values : (l : ℕ) → Valuation → Tree l → List ℤ
root_values zero a t = elim t [ ]
root_values (suc l) a (leaf x) = []
root_values (suc l) a (inner form ts) = joined (inner_values l a) ts

unfoldable pub root_variables : (l : ℕ) → List Variable → ℕ → Tree l → List Variable
root_variables zero vs kind t = elim t [ ]
root_variables (suc l) vs kind (leaf x) = []
root_variables (suc l) vs kind (inner form ts) = joined (inner_variables l vs kind) ts

-- "the root's rule heads into the head; a leaf root is a sum of one"
unfoldable pub root_rules : (l : ℕ) → ℕ → ℕ → Tree l → List Rule
root_rules zero h n t = elim t [ ]
root_rules (suc l) h n (leaf x) = node_rule 1 h (x ∷ []) ∷ []
root_rules (suc l) h n (inner form ts) = node_rule form h (operands l n ts) ∷ along (inners l) (inner_rules l) n ts

-- ---- the trees of a file, vs being its declared variables

abbrev pub added_by : Rooted → ℕ
added_by t = besides max_levels t.tree

abbrev pub tree_variables : List Variable → Rooted → List Variable
tree_variables vs t = root_variables max_levels vs (variable_in vs t.head).kind t.tree

abbrev pub tree_rules : ℕ → Rooted → List Rule
tree_rules n t = root_rules max_levels t.head n t.tree

abbrev pub added_variables : List Variable → List Rooted → List Variable
added_variables vs ts = joined (tree_variables vs) ts

abbrev pub added_rules : ℕ → List Rooted → List Rule
added_rules n ts = along added_by tree_rules n ts

-- the values of all added variables
abbrev pub added_values : Valuation → List Rooted → List ℤ
added_values a ts = joined (λ t. root_values max_levels a t.tree) ts

unfoldable pub flatten : Nested → Program
flatten N =
    let vs = N.plain.variables in
    record {
      variables = vs ++ added_variables vs N.trees;
      rules = N.plain.rules ++ added_rules (length vs) N.trees;
      constraints = N.plain.constraints;
    }
