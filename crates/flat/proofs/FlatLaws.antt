-- What a walk over the bytes of a tree finds is what the tree has.
use Prim.Native.Nat.{ℕ, zero, suc}
use mathlib.Core.Path.{◌≡◌, refl, sym, ap, ap₂, subst, ◌∙◌}
use mathlib.Core.List.{List, [], ◌∷◌, ◌++◌, append-nil}
use native.Mathlib.Omega.{arith}
use lib.ListN.{length, drop}
use Rattle.trees.specs.Tree.{Tree, leaf, inner, joined, leaves, inners, besides, tree_bytes, Formed, ◌then◌, tree_in}
use Rattle.trees.proofs.TreeFiles.{tree_read, inner_byte}
use Rattle.program.specs.Program.{Rule}
use Rattle.program.specs.Readings.{Valuation}
use Rattle.nested.specs.Flatten.{node_rule, along, inner_rules, inner_values, root_rules, root_values}
use Rattle.flat.specs.Flat.{OneTree, inners_in, leaves_in, rules_in, flat_rules, values_in}
use Rattle.flat.proofs.FlatTrees.{trees_inners, tree_trees, forest_trees}
use Rattle.flat.proofs.FlatNodes.{tree_leaves, forest_operands, forest_rules}
use Rattle.flat.proofs.FlatValues.{LeavesBelow, forest_values}

-- ---- the bytes of a tree

bytes_besides : (l : ℕ) (t : Tree l) → Formed l t → inners_in (drop 2 (tree_bytes l t ++ [])) ≡ besides l t
unfolding tree_bytes Formed besides inners_in
bytes_besides zero t h = absurd t
bytes_besides (suc l) (leaf x) h = refl
bytes_besides (suc l) (inner form ts) h = omega (arith, trees_inners (forest_trees l ts [] h.1))

bytes_rules : (h n l : ℕ) (t : Tree l) → Formed l t → flat_rules h n (tree_bytes l t ++ []) ≡ root_rules l h n t
unfolding tree_bytes Formed flat_rules root_rules rules_in
bytes_rules h n zero t f = absurd t
bytes_rules h n (suc l) (leaf x) f = refl
bytes_rules h n (suc l) (inner form ts) f =
    rw (inner_byte form (length ts) f.0)
    (ap₂ (λ (xs : List ℕ) (rs : List Rule). node_rule form h xs ∷ rs) (forest_operands l n ts [] f.1)
    (forest_rules l n ts [] f.1 ∙ append-nil (along (inners l) (inner_rules l) n ts)))

bytes_values : (a : Valuation) (n l : ℕ) (t : Tree l) → Formed l t → LeavesBelow n l t → values_in a n (drop 2 (tree_bytes l t ++ [])) ≡ root_values l a t
unfolding tree_bytes Formed leaves root_values values_in
bytes_values a n zero t f h = absurd t
bytes_values a n (suc l) (leaf x) f h = refl
bytes_values a n (suc l) (inner form ts) f h = forest_values a n l n ts [] (omega arith) f.1 h ∙ append-nil (joined (inner_values l a) ts)

-- ---- the bytes that a tree is read from

module _ (l : ℕ) (s : List ℕ) (t : Tree l) (e : tree_in l s ≡ (t then [])) where
  encoded : s ≡ tree_bytes l t ++ []
  encoded = (tree_read l s t [] e).0

  formed : Formed l t
  formed = (tree_read l s t [] e).1

  pub flat_one : OneTree s
  flat_one = let k = tree_trees l t [] formed in subst OneTree (sym encoded) (record { stands = k.stand; ends = k.after })

  pub flat_inners : inners_in s ≡ inners l t
  unfolding inners_in
  flat_inners = omega (arith, ap inners_in encoded, trees_inners (tree_trees l t [] formed))

  pub flat_besides : inners_in (drop 2 s) ≡ besides l t
  flat_besides = ap (λ (q : List ℕ). inners_in (drop 2 q)) encoded ∙ bytes_besides l t formed

  pub flat_leaves : leaves_in s ≡ leaves l t
  unfolding leaves_in
  flat_leaves = ap leaves_in encoded ∙ tree_leaves l t [] formed ∙ append-nil (leaves l t)

  pub flat_rules_is : (h n : ℕ) → flat_rules h n s ≡ root_rules l h n t
  flat_rules_is h n = ap (flat_rules h n) encoded ∙ bytes_rules h n l t formed

  pub flat_values : (a : Valuation) (n : ℕ) → LeavesBelow n l t → values_in a n (drop 2 s) ≡ root_values l a t
  flat_values a n h = ap (λ (q : List ℕ). values_in a n (drop 2 q)) encoded ∙ bytes_values a n l t formed h
