-- The values of the inner nodes: those that a walk over the bytes finds, and those that the tree has.
use Prim.Native.Nat.{ℕ, zero, suc, ◌+◌, ◌-◌, ◌<◌, ◌≤◌}
use mathlib.Core.Path.{◌≡◌, refl, sym, ap, ap₂, ◌∙◌}
use mathlib.Core.List.{List, [], ◌∷◌, ◌++◌, map, append_assoc, map-append}
use native.Mathlib.Omega.{arith}
use borrow.Author.Tests.{lt-ltb, le-ltb}
use lib.IntN.{ℤ, pos}
use lib.ListN.{length, length-append}
use lib.Seq.{get_or-append_seam}
use Rattle.trees.specs.Tree.{Tree, leaf, inner, joined, total, leaves, inners, tree_bytes, Formed}
use Rattle.trees.proofs.TreeFiles.{inner_byte}
use Rattle.program.specs.Encode.{All}
use Rattle.program.specs.Readings.{Valuation}
use Rattle.program.specs.Idle.{lows, highs}
use Rattle.program.specs.declared.Variable.{Variable}
use Rattle.nested.specs.Flatten.{node_gives, value_of, inner_values, inner_variables, root_values, root_variables, along, operand, operands}
use Rattle.flat.specs.Flat.{extended, values_in, ranged}
use Rattle.flat.proofs.FlatNodes.{along_walk, along_joined, forest_operands}

-- ---- lists

all_both : {A : Type 0} (p : A → Type 0) (xs ys : List A) → All p (xs ++ ys) → All p xs × All p ys
all_both p [] ys h = (tt, h)
all_both p (x ∷ xs) ys h = let k = all_both p xs ys h.1 in ((h.0, k.0), k.1)

-- what all of the joined have, and each has besides
all_joined : {A B : Type 0} (p : B → Type 0) (q : A → Type 0) (f : A → List B) (xs : List A) → All q xs → All p (joined f xs) → All (λ x. q x × All p (f x)) xs
unfolding joined
all_joined p q f [] h k = tt
all_joined p q f (x ∷ xs) h k = let both = all_both p (f x) (joined f xs) k in ((h.0, both.0), all_joined p q f xs h.1 both.1)

joined_length : {A B : Type 0} (f : A → List B) (size : A → ℕ) → ((x : A) → length (f x) ≡ size x) → (xs : List A) → length (joined f xs) ≡ total size xs
unfolding joined total
joined_length f size h [] = refl
joined_length f size h (x ∷ xs) = omega (arith, length-append (f x) (joined f xs), h x, joined_length f size h xs)

pub inner_values_length : (l : ℕ) (a : Valuation) (t : Tree l) → length (inner_values l a t) ≡ inners l t
unfolding inner_values inners
inner_values_length zero a t = absurd t
inner_values_length (suc l) a (leaf x) = refl
inner_values_length (suc l) a (inner form ts) = omega (arith, joined_length (inner_values l a) (inners l) (inner_values_length l a) ts)

-- ---- the values of operands

-- every leaf is below a number
abbrev pub LeavesBelow : ℕ → (l : ℕ) → Tree l → Type 0
LeavesBelow n l t = All (λ x. x < n) (leaves l t)

module _ (a : Valuation) (free n : ℕ) (bound : free ≤ n) where
  -- below the numbers that are free, and from there on
  extended_old : (values : List ℤ) (v : ℕ) → v < free → extended a n values v ≡ a v
  extended_old values v h = rw (lt-ltb v n (omega arith))

  extended_new : (before : List ℤ) (z : ℤ) (rest : List ℤ) → extended a n (before ++ z ∷ rest) (n + length before) ≡ z
  extended_new before z rest =
      let e : (n + length before) - n ≡ length before = omega arith in
      rw (le-ltb (n + length before) n (omega arith), e) (get_or-append_seam before z rest (pos 0))

  operand_value : (l : ℕ) (t : Tree l) (before rest : List ℤ) → LeavesBelow free l t
      → map (extended a n (before ++ (inner_values l a t ++ rest))) (operand l (n + length before) t) ≡ value_of l t a ∷ []
  unfolding leaves inner_values value_of
  operand_value zero t before rest h = absurd t
  operand_value (suc l) (leaf x) before rest h = ap (λ (z : ℤ). z ∷ []) (extended_old (before ++ rest) x h.0)
  operand_value (suc l) (inner form ts) before rest h =
      ap (λ (z : ℤ). z ∷ []) (extended_new before (node_gives form (map (λ t. value_of l t a) ts)) (joined (inner_values l a) ts ++ rest))

  operand_values : (l : ℕ) (ts : List (Tree l)) (before rest : List ℤ) → All (λ t. Formed l t × LeavesBelow free l t) ts
      → map (extended a n (before ++ (joined (inner_values l a) ts ++ rest))) (operands l (n + length before) ts) ≡ map (λ t. value_of l t a) ts
  unfolding joined along
  operand_values l [] before rest h = refl
  operand_values l (t ∷ ts) before rest h =
      let mine = inner_values l a t in
      let others = joined (inner_values l a) ts in
      let next : (n + length before) + inners l t ≡ n + length (before ++ mine) = omega (arith, length-append before mine, inner_values_length l a t) in
      let regroup : before ++ ((mine ++ others) ++ rest) ≡ before ++ (mine ++ (others ++ rest)) = ap (λ (z : List ℤ). before ++ z) (append_assoc mine others rest) in
      let first = operand_value l t before (others ++ rest) h.0.1 in
      let then-on = operand_values l ts (before ++ mine) rest h.1 in
      let at : before ++ (mine ++ (others ++ rest)) ≡ (before ++ mine) ++ (others ++ rest) = sym (append_assoc before mine (others ++ rest)) in
      ap (λ (z : List ℤ). map (extended a n z) (operand l (n + length before) t ++ operands l ((n + length before) + inners l t) ts)) regroup
      ∙ map-append (extended a n (before ++ (mine ++ (others ++ rest)))) (operand l (n + length before) t) (operands l ((n + length before) + inners l t) ts)
      ∙ ap₂ (λ (xs ys : List ℤ). xs ++ ys) first
      (ap₂ (λ (z : List ℤ) (m : ℕ). map (extended a n z) (operands l m ts)) at next ∙ then-on)

-- ---- the values of inner nodes

module _ (a : Valuation) (free : ℕ) where
  -- from one tree to all of a list
  several_values : (l : ℕ)
      → ((n : ℕ) (t : Tree l) (rest : List ℕ) → free ≤ n → Formed l t × LeavesBelow free l t
      → values_in a n (tree_bytes l t ++ rest) ≡ inner_values l a t ++ values_in a (n + inners l t) rest)
      → (n : ℕ) (ts : List (Tree l)) (rest : List ℕ) → free ≤ n → All (λ t. Formed l t × LeavesBelow free l t) ts
      → values_in a n (joined (tree_bytes l) ts ++ rest) ≡ joined (inner_values l a) ts ++ values_in a (n + total (inners l) ts) rest
  several_values l one n ts rest b good =
      along_walk (tree_bytes l) (λ t. Formed l t × LeavesBelow free l t) (inners l) (λ n. inner_values l a) (values_in a) free one n ts rest b good
      ∙ ap (λ (z : List ℤ). z ++ values_in a (n + total (inners l) ts) rest) (along_joined (inners l) (inner_values l a) n ts)

  pub tree_values_is : (l n : ℕ) (t : Tree l) (rest : List ℕ) → free ≤ n → Formed l t × LeavesBelow free l t
      → values_in a n (tree_bytes l t ++ rest) ≡ inner_values l a t ++ values_in a (n + inners l t) rest
  unfolding tree_bytes Formed leaves inners inner_values value_of values_in
  tree_values_is zero n t rest b h = absurd t
  tree_values_is (suc l) n (leaf x) rest b h = ap (λ (m : ℕ). values_in a m rest) (omega arith)
  tree_values_is (suc l) n (inner form ts) rest b h =
      let m : suc n + total (inners l) ts ≡ n + (1 + total (inners l) ts) = omega arith in
      let good = all_joined (λ x. x < free) (Formed l) (leaves l) ts h.0.1 h.1 in
      let after = values_in a (n + (1 + total (inners l) ts)) rest in
      let all = joined (inner_values l a) ts ++ after in
      let found : values_in a (suc n) (joined (tree_bytes l) ts ++ rest) ≡ all =
      several_values l (tree_values_is l) (suc n) ts rest (omega arith) good ∙ ap (λ (k : ℕ). joined (inner_values l a) ts ++ values_in a k rest) m in
      let first : suc n ≡ suc n + 0 = omega arith in
      let given : map (extended a (suc n) all) (operands l (suc n) ts) ≡ map (λ t. value_of l t a) ts =
      ap (λ (k : ℕ). map (extended a (suc n) all) (operands l k ts)) first ∙ operand_values a free (suc n) (omega arith) l ts [] after good in
      rw (inner_byte form (length ts) h.0.0)
      (ap₂ (λ (z : List ℤ) (xs : List ℕ). node_gives form (map (extended a (suc n) z) xs) ∷ z) found (forest_operands l (suc n) ts rest h.0.1)
      ∙ ap (λ (ys : List ℤ). node_gives form ys ∷ all) given)

  pub forest_values : (l n : ℕ) (ts : List (Tree l)) (rest : List ℕ) → free ≤ n → All (Formed l) ts → All (λ x. x < free) (joined (leaves l) ts)
      → values_in a n (joined (tree_bytes l) ts ++ rest) ≡ joined (inner_values l a) ts ++ values_in a (n + total (inners l) ts) rest
  forest_values l n ts rest b f h = several_values l (tree_values_is l) n ts rest b (all_joined (λ x. x < free) (Formed l) (leaves l) ts f h)

-- ---- the variables of inner nodes

ranged_both : (kind : ℕ) (low high lows highs : List ℤ) → length low ≡ length high
    → ranged kind (low ++ lows) (high ++ highs) ≡ ranged kind low high ++ ranged kind lows highs
unfolding ranged
ranged_both kind [] [] lows highs h = refl
ranged_both kind [] (y ∷ high) lows highs h = let f : ⊥ = omega arith in absurd f
ranged_both kind (x ∷ low) [] lows highs h = let f : ⊥ = omega arith in absurd f
ranged_both kind (x ∷ low) (y ∷ high) lows highs h =
    ap (λ (vs : List Variable). record { kind = kind; low = x; high = y } ∷ vs) (ranged_both kind low high lows highs (omega arith))

ranged_joined : {A : Type 0} (kind : ℕ) (low high : A → List ℤ) (f : A → List Variable) → ((x : A) → length (low x) ≡ length (high x))
    → ((x : A) → ranged kind (low x) (high x) ≡ f x) → (xs : List A) → ranged kind (joined low xs) (joined high xs) ≡ joined f xs
unfolding joined ranged
ranged_joined kind low high f same one [] = refl
ranged_joined kind low high f same one (x ∷ xs) =
    ranged_both kind (low x) (high x) (joined low xs) (joined high xs) (same x)
    ∙ ap₂ (λ (us vs : List Variable). us ++ vs) (one x) (ranged_joined kind low high f same one xs)

module _ (vs : List Variable) (kind : ℕ) where
  values_as_many : (l : ℕ) (t : Tree l) → length (inner_values l (lows vs) t) ≡ length (inner_values l (highs vs) t)
  values_as_many l t = inner_values_length l (lows vs) t ∙ sym (inner_values_length l (highs vs) t)

  tree_variables_is : (l : ℕ) (t : Tree l) → ranged kind (inner_values l (lows vs) t) (inner_values l (highs vs) t) ≡ inner_variables l vs kind t
  unfolding inner_values inner_variables value_of ranged
  tree_variables_is zero t = absurd t
  tree_variables_is (suc l) (leaf x) = refl
  tree_variables_is (suc l) (inner form ts) =
      ap (λ us. record { kind = kind; low = node_gives form (map (λ t. value_of l t (lows vs)) ts); high = node_gives form (map (λ t. value_of l t (highs vs)) ts) } ∷ us)
      (ranged_joined kind (inner_values l (lows vs)) (inner_values l (highs vs)) (inner_variables l vs kind) (values_as_many l) (tree_variables_is l) ts)

  -- "of the head's kind with the exact range of its values"
  pub flat_variables : (l : ℕ) (t : Tree l) → ranged kind (root_values l (lows vs) t) (root_values l (highs vs) t) ≡ root_variables l vs kind t
  unfolding root_values root_variables ranged
  flat_variables zero t = absurd t
  flat_variables (suc l) (leaf x) = refl
  flat_variables (suc l) (inner form ts) =
      ranged_joined kind (inner_values l (lows vs)) (inner_values l (highs vs)) (inner_variables l vs kind) (values_as_many l) (tree_variables_is l) ts
