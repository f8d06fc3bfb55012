-- Trees that are read, and bytes that are none, by computation.
use mathlib.Core.Path.{◌≡◌, refl}
use mathlib.Core.List.{List, [], ◌∷◌}
use Prim.Native.Nat.{ℕ, zero, suc}
use Rattle.trees.specs.Tree.{Tree, leaf, inner, max_levels, nothing, ◌then◌, several, tree_in}

-- the bytes of n sums of one, each in the one before, and of a leaf in the innermost
sums_in : ℕ → List ℕ
sums_in zero = 0 ∷ 5 ∷ []
sums_in (suc n) = 1 ∷ 1 ∷ sums_in n

sums_of : (n : ℕ) → Tree (suc n)
sums_of zero = leaf 5
sums_of (suc n) = inner 1 (sums_of n ∷ [])

-- "at most 8 levels, root included"
seven_sums : tree_in max_levels (sums_in 7) ≡ (sums_of 7 then [])
unfolding tree_in several sums_in sums_of
seven_sums = refl

eight_sums : tree_in max_levels (sums_in 8) ≡ nothing
unfolding tree_in several sums_in
eight_sums = refl

-- "a child count from 1 to 16"
no_children : tree_in max_levels (1 ∷ 0 ∷ []) ≡ nothing
unfolding tree_in
no_children = refl

leaves_in : ℕ → List ℕ
leaves_in zero = []
leaves_in (suc n) = 0 ∷ n ∷ leaves_in n

leaves_of : ℕ → List (Tree 7)
leaves_of zero = []
leaves_of (suc n) = leaf n ∷ leaves_of n

sixteen_children : tree_in max_levels (2 ∷ 16 ∷ leaves_in 16) ≡ (inner 2 (leaves_of 16) then [])
unfolding tree_in several leaves_in leaves_of
sixteen_children = refl

seventeen_children : tree_in max_levels (2 ∷ 17 ∷ leaves_in 17) ≡ nothing
unfolding tree_in
seventeen_children = refl

-- "sum, max or min (byte 1, 2 or 3)"
a_minimum : tree_in max_levels (3 ∷ 2 ∷ 0 ∷ 1 ∷ 0 ∷ 2 ∷ 7 ∷ []) ≡ (inner 3 (leaf 1 ∷ leaf 2 ∷ []) then (7 ∷ []))
unfolding tree_in several
a_minimum = refl

no_such_node : tree_in max_levels (4 ∷ 1 ∷ 0 ∷ 5 ∷ []) ≡ nothing
unfolding tree_in
no_such_node = refl

-- cut short: in a node, and before the last child
half_a_node : tree_in max_levels (0 ∷ []) ≡ nothing
unfolding tree_in
half_a_node = refl

child_missing : tree_in max_levels (1 ∷ 2 ∷ 0 ∷ 5 ∷ []) ≡ nothing
unfolding tree_in several
child_missing = refl
