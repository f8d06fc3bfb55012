-- The bytes of trees, walked over: how many trees and inner nodes stand there, and what comes after them.
use Prim.Native.Nat.{ℕ, zero, suc, ◌+◌}
use mathlib.Core.Path.{◌≡◌, sym, ap, subst, ◌∙◌}
use mathlib.Core.List.{List, [], ◌∷◌, ◌++◌, append_assoc}
use native.Mathlib.Omega.{arith}
use lib.Dec.{T}
use lib.ListN.{length}
use Rattle.trees.specs.Tree.{Tree, leaf, inner, joined, total, inners, tree_bytes, inner_bytes, Formed}
use Rattle.trees.proofs.TreeFiles.{inner_byte}
use Rattle.program.specs.Encode.{All}
use Rattle.flat.specs.Flat.{children_of, inner_of, Stand, past, inners_passed, inners_in}
use Rattle.flat.proofs.Standing.{stand_zero, stand_both, past_none, past_add, passed_none, passed_add, inners_passed_lem}

-- s begins with k trees that have i inner nodes, and goes on with the rest
pub record Trees (s : List ℕ) (k i : ℕ) (rest : List ℕ) : Type 0 where
  pub stand : Stand s k
  pub after : past s k ≡ rest
  pub passed : inners_passed s k ≡ i

pub trees_inners : {s : List ℕ} {k i : ℕ} {rest : List ℕ} → Trees s k i rest → inners_in s ≡ i + inners_in rest
trees_inners {s} {k} h = omega (arith, inners_passed_lem s k, h.passed, ap inners_in h.after)

no_trees : (s : List ℕ) → Trees s 0 0 s
no_trees s = record { stand = stand_zero s; after = past_none s; passed = passed_none s }

more_trees : {s r rest : List ℕ} {m n i j : ℕ} → Trees s m i r → Trees r n j rest → Trees s (m + n) (i + j) rest
more_trees {s} {r} {m = m} {n = n} h k = record {
  stand = stand_both s m n h.stand (rw h.after k.stand);
  after = past_add s m n ∙ ap (λ (q : List ℕ). past q n) h.after ∙ k.after;
  passed = omega (arith, passed_add s m n, h.passed, k.passed, ap (λ (q : List ℕ). inners_passed q n) h.after);
}

leaf_tree : (x : ℕ) (rest : List ℕ) → Trees (0 ∷ x ∷ rest) 1 0 rest
unfolding Stand past inners_passed
leaf_tree x rest = record { stand = (tt, stand_zero rest); after = past_none rest; passed = omega (arith, passed_none rest) }

inner_tree : {s rest : List ℕ} {i : ℕ} (a b : ℕ) → T (inner_bytes a b) → Trees s b i rest → Trees (a ∷ b ∷ s) 1 (1 + i) rest
unfolding Stand past inners_passed
inner_tree {s} a b h k =
    let e = inner_byte a b h in
    let c : children_of a b + 0 ≡ b = rw e (omega arith) in
    let n : inner_of a ≡ 1 = rw e in
    record {
      stand = (rw e h, subst (Stand s) (sym c) k.stand);
      after = ap (past s) c ∙ k.after;
      passed = omega (arith, k.passed, ap (inners_passed s) c);
    }

-- all of a list, where one does
several_trees : {A : Type 0} (bytes : A → List ℕ) (good : A → Type 0) (size : A → ℕ) → ((x : A) (rest : List ℕ) → good x → Trees (bytes x ++ rest) 1 (size x) rest)
    → (xs : List A) (rest : List ℕ) → All good xs → Trees (joined bytes xs ++ rest) (length xs) (total size xs) rest
unfolding joined total
several_trees bytes good size one [] rest h = no_trees rest
several_trees bytes good size one (x ∷ xs) rest h =
    let n : 1 + length xs ≡ suc (length xs) = omega arith in
    rw (append_assoc (bytes x) (joined bytes xs) rest, ← n) (more_trees (one x (joined bytes xs ++ rest) h.0) (several_trees bytes good size one xs rest h.1))

pub tree_trees : (l : ℕ) (t : Tree l) (rest : List ℕ) → Formed l t → Trees (tree_bytes l t ++ rest) 1 (inners l t) rest
unfolding tree_bytes inners Formed
tree_trees zero t rest h = absurd t
tree_trees (suc l) (leaf x) rest h = leaf_tree x rest
tree_trees (suc l) (inner form ts) rest h =
    inner_tree form (length ts) h.0 (several_trees (tree_bytes l) (Formed l) (inners l) (tree_trees l) ts rest h.1)

pub forest_trees : (l : ℕ) (ts : List (Tree l)) (rest : List ℕ) → All (Formed l) ts → Trees (joined (tree_bytes l) ts ++ rest) (length ts) (total (inners l) ts) rest
forest_trees l ts rest h = several_trees (tree_bytes l) (Formed l) (inners l) (tree_trees l) ts rest h
