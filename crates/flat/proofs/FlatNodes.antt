-- The bytes of trees, walked over: their leaves and the rules of their inner nodes.
use Prim.Native.Nat.{ℕ, zero, suc, ◌+◌, ◌≤◌}
use mathlib.Core.Path.{◌≡◌, refl, sym, ap, ap₂, ◌∙◌}
use mathlib.Core.List.{List, [], ◌∷◌, ◌++◌, append_assoc}
use native.Mathlib.Omega.{arith}
use lib.ListN.{length}
use Rattle.trees.specs.Tree.{Tree, leaf, inner, joined, total, leaves, inners, tree_bytes, Formed}
use Rattle.trees.proofs.TreeFiles.{inner_byte}
use Rattle.program.specs.Program.{Rule}
use Rattle.program.specs.Encode.{All}
use Rattle.nested.specs.Flatten.{node_rule, along, operand, operands, inner_rules}
use Rattle.flat.specs.Flat.{leaves_in, operand_in, operands_in, rules_in}
use Rattle.flat.proofs.FlatTrees.{tree_trees}

-- ---- a walk that goes over each of a list with what f has for it, n being the first number that is free

-- from one to all: `free` is a bound that the numbers keep to
pub along_walk : {A B : Type 0} (bytes : A → List ℕ) (good : A → Type 0) (size : A → ℕ) (f : ℕ → A → List B) (walk : ℕ → List ℕ → List B) (free : ℕ)
    → ((n : ℕ) (x : A) (rest : List ℕ) → free ≤ n → good x → walk n (bytes x ++ rest) ≡ f n x ++ walk (n + size x) rest)
    → (n : ℕ) (xs : List A) (rest : List ℕ) → free ≤ n → All good xs → walk n (joined bytes xs ++ rest) ≡ along size f n xs ++ walk (n + total size xs) rest
unfolding joined along total
along_walk bytes good size f walk free one n [] rest h k = ap (λ (m : ℕ). walk m rest) (omega arith)
along_walk bytes good size f walk free one n (x ∷ xs) rest h k =
    let m : (n + size x) + total size xs ≡ n + (size x + total size xs) = omega arith in
    ap (walk n) (append_assoc (bytes x) (joined bytes xs) rest)
    ∙ one n x (joined bytes xs ++ rest) h k.0
    ∙ ap (λ r. f n x ++ r) (along_walk bytes good size f walk free one (n + size x) xs rest (omega arith) k.1
    ∙ ap (λ m. along size f (n + size x) xs ++ walk m rest) m)
    ∙ sym (append_assoc (f n x) (along size f (n + size x) xs) (walk (n + (size x + total size xs)) rest))

-- where the number is of no account
pub along_joined : {A B : Type 0} (size : A → ℕ) (f : A → List B) (n : ℕ) (xs : List A) → along size (λ m. f) n xs ≡ joined f xs
unfolding along joined
along_joined size f n [] = refl
along_joined size f n (x ∷ xs) = ap (λ r. f x ++ r) (along_joined size f (n + size x) xs)

-- ---- leaves

pub tree_leaves : (l : ℕ) (t : Tree l) (rest : List ℕ) → Formed l t → leaves_in (tree_bytes l t ++ rest) ≡ leaves l t ++ leaves_in rest
unfolding tree_bytes Formed leaves leaves_in
tree_leaves zero t rest h = absurd t
tree_leaves (suc l) (leaf x) rest h = refl
tree_leaves (suc l) (inner form ts) rest h =
    rw (inner_byte form (length ts) h.0)
    (along_walk (tree_bytes l) (Formed l) (λ t. 0) (λ n. leaves l) (λ n. leaves_in) 0 (λ n t r k. tree_leaves l t r) 0 ts rest (omega arith) h.1
    ∙ ap (λ r. r ++ leaves_in rest) (along_joined (λ t. 0) (leaves l) 0 ts))

-- ---- operands

tree_operand : (l n : ℕ) (t : Tree l) (rest : List ℕ) → Formed l t → operand_in n (tree_bytes l t ++ rest) ∷ [] ≡ operand l n t
unfolding tree_bytes Formed
tree_operand zero n t rest h = absurd t
tree_operand (suc l) n (leaf x) rest h = refl
tree_operand (suc l) n (inner form ts) rest h = rw (inner_byte form (length ts) h.0)

pub forest_operands : (l n : ℕ) (ts : List (Tree l)) (rest : List ℕ) → All (Formed l) ts → operands_in n (length ts) (joined (tree_bytes l) ts ++ rest) ≡ operands l n ts
unfolding operands_in joined along
forest_operands l n [] rest h = refl
forest_operands l n (t ∷ ts) rest h =
    let r = joined (tree_bytes l) ts ++ rest in
    let k = tree_trees l t r h.0 in
    ap (operands_in n (suc (length ts))) (append_assoc (tree_bytes l t) (joined (tree_bytes l) ts) rest)
    ∙ ap₂ (λ (m : ℕ) (s : List ℕ). operand_in n (tree_bytes l t ++ r) ∷ operands_in (n + m) (length ts) s) k.passed k.after
    ∙ ap₂ (λ (xs ys : List ℕ). xs ++ ys) (tree_operand l n t r h.0) (forest_operands l (n + inners l t) ts rest h.1)

-- ---- rules

pub tree_rules_lem : (l n : ℕ) (t : Tree l) (rest : List ℕ) → Formed l t → rules_in n (tree_bytes l t ++ rest) ≡ inner_rules l n t ++ rules_in (n + inners l t) rest
unfolding tree_bytes Formed inners inner_rules rules_in
tree_rules_lem zero n t rest h = absurd t
tree_rules_lem (suc l) n (leaf x) rest h = ap (λ (m : ℕ). rules_in m rest) (omega arith)
tree_rules_lem (suc l) n (inner form ts) rest h =
    let m : suc n + total (inners l) ts ≡ n + (1 + total (inners l) ts) = omega arith in
    rw (inner_byte form (length ts) h.0)
    (ap₂ (λ (xs : List ℕ) (rs : List Rule). node_rule form n xs ∷ rs) (forest_operands l (suc n) ts rest h.1)
    (along_walk (tree_bytes l) (Formed l) (inners l) (inner_rules l) rules_in 0 (λ n t r k. tree_rules_lem l n t r) (suc n) ts rest (omega arith) h.1
    ∙ ap (λ (k : ℕ). along (inners l) (inner_rules l) (suc n) ts ++ rules_in k rest) m))

pub forest_rules : (l n : ℕ) (ts : List (Tree l)) (rest : List ℕ) → All (Formed l) ts
    → rules_in n (joined (tree_bytes l) ts ++ rest) ≡ along (inners l) (inner_rules l) n ts ++ rules_in (n + total (inners l) ts) rest
forest_rules l n ts rest h =
    along_walk (tree_bytes l) (Formed l) (inners l) (inner_rules l) rules_in 0 (λ n t r k. tree_rules_lem l n t r) n ts rest (omega arith) h
