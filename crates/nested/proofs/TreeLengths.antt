-- What a tree adds: a variable for each inner node besides the root, and one rule more than that.
use Prim.Native.Nat.{ℕ, zero, suc, ◌+◌}
use mathlib.Core.Path.{◌≡◌, refl, ◌∙◌}
use mathlib.Core.List.{List, [], ◌∷◌}
use native.Mathlib.Omega.{arith}
use lib.ListN.{length}
use Rattle.trees.specs.Tree.{Tree, leaf, inner, max_levels, total, inners, besides}
use Rattle.program.specs.Program.{variable_in}
use Rattle.program.specs.declared.Variable.{Variable}
use Rattle.nested.specs.Nested.{Rooted}
use Rattle.nested.specs.Flatten.{inner_variables, inner_rules, operand, operands, root_variables, root_rules, added_by, tree_variables, tree_rules, added_variables, added_rules}
use Rattle.nested.specs.TreeRefusals.{variables_added, rules_added}
use Rattle.nested.proofs.Alongs.{joined_length, along_length}

module _ (vs : List Variable) (kind : ℕ) where
  inner_variables_length : (l : ℕ) (t : Tree l) → length (inner_variables l vs kind t) ≡ inners l t
  unfolding inner_variables inners
  inner_variables_length zero t = absurd t
  inner_variables_length (suc l) (leaf x) = refl
  inner_variables_length (suc l) (inner form ts) = let e = joined_length (inner_variables l vs kind) (inners l) (inner_variables_length l) ts in omega arith

  root_variables_length : (l : ℕ) (t : Tree l) → length (root_variables l vs kind t) ≡ besides l t
  unfolding root_variables besides
  root_variables_length zero t = absurd t
  root_variables_length (suc l) (leaf x) = refl
  root_variables_length (suc l) (inner form ts) = joined_length (inner_variables l vs kind) (inners l) (inner_variables_length l) ts

inner_rules_length : (l n : ℕ) (t : Tree l) → length (inner_rules l n t) ≡ inners l t
unfolding inner_rules inners
inner_rules_length zero n t = absurd t
inner_rules_length (suc l) n (leaf x) = refl
inner_rules_length (suc l) n (inner form ts) = let e = along_length (inners l) (inner_rules l) (inners l) (inner_rules_length l) (suc n) ts in omega arith

root_rules_length : (l h n : ℕ) (t : Tree l) → length (root_rules l h n t) ≡ 1 + besides l t
unfolding root_rules besides
root_rules_length zero h n t = absurd t
root_rules_length (suc l) h n (leaf x) = refl
root_rules_length (suc l) h n (inner form ts) = let e = along_length (inners l) (inner_rules l) (inners l) (inner_rules_length l) n ts in omega arith

pub tree_variables_length : (vs : List Variable) (t : Rooted) → length (tree_variables vs t) ≡ added_by t
tree_variables_length vs t = root_variables_length vs (variable_in vs t.head).kind max_levels t.tree

pub variables_length : (vs : List Variable) (ts : List Rooted) → length (added_variables vs ts) ≡ variables_added ts
variables_length vs ts = joined_length (tree_variables vs) added_by (tree_variables_length vs) ts

pub rules_length : (n : ℕ) (ts : List Rooted) → length (added_rules n ts) ≡ rules_added ts
rules_length n ts = along_length added_by tree_rules (λ t. 1 + added_by t) (λ m t. root_rules_length max_levels t.head m t.tree) n ts

-- each child has one operand
operand_one : (l n : ℕ) (t : Tree l) → length (operand l n t) ≡ 1
operand_one zero n t = absurd t
operand_one (suc l) n (leaf x) = refl
operand_one (suc l) n (inner form ts) = refl

total_ones : {A : Type 0} (xs : List A) → total (λ x. 1) xs ≡ length xs
unfolding total
total_ones [] = refl
total_ones (x ∷ xs) = let e = total_ones xs in omega arith

pub operands_length : (l n : ℕ) (ts : List (Tree l)) → length (operands l n ts) ≡ length ts
operands_length l n ts = along_length (inners l) (operand l) (λ t. 1) (operand_one l) n ts ∙ total_ones ts
