-- Document 02, wish 6: "A node is a leaf (byte 0, variable) or sum, max or min (byte 1, 2 or 3), a child count from 1 to 16 and the children. An expression
-- reads its children and each child is again an expression, at most 8 levels, root included."
use Rattle.std.specs.Prelude.{ℕ, zero, suc, ◌+◌, Bool, cond, ◌&&◌, List, [], ◌∷◌, ◌++◌, T, eqb, leb, length}
use Rattle.program.specs.Encode.{All}

-- a leaf has its variable, an inner node its byte and its children
pub data Node (A : Type 0) : Type 0 where
  leaf : ℕ → Node A
  inner : ℕ → List A → Node A

-- a tree of at most l levels: its children have one level less. A leaf is a node and a level
abbrev pub Tree : ℕ → Type 0
Tree zero = ⊥
Tree (suc l) = Node (Tree l)

-- "at most 8 levels"; "a child count from 1 to 16"
abbrev pub max_levels : ℕ
max_levels = 8

abbrev pub max_children : ℕ
max_children = 16

-- ---- along the children

-- what f has for each, one after the other
unfoldable pub joined : {A B : Type 0} → (A → List B) → List A → List B
joined f [] = []
joined f (x ∷ xs) = f x ++ joined f xs

-- f 0 + .. over all
unfoldable pub total : {A : Type 0} → (A → ℕ) → List A → ℕ
total f [] = 0
total f (x ∷ xs) = f x + total f xs

unfoldable pub largest : {A : Type 0} → (A → ℕ) → List A → ℕ
largest f [] = 0
largest f (x ∷ xs) = let n = largest f xs in cond (leb n (f x)) (f x) n

-- ---- of a tree

unfoldable pub levels : (l : ℕ) → Tree l → ℕ
levels zero x' = elim x' [ ]
levels (suc l) (leaf x) = 1
levels (suc l) (inner form ts) = 1 + largest (levels l) ts

-- the variables of its leaves, in their order
unfoldable pub leaves : (l : ℕ) → Tree l → List ℕ
leaves zero x' = elim x' [ ]
leaves (suc l) (leaf x) = x ∷ []
leaves (suc l) (inner form ts) = joined (leaves l) ts

-- how many inner nodes it has, the root included
unfoldable pub inners : (l : ℕ) → Tree l → ℕ
inners zero x' = elim x' [ ]
inners (suc l) (leaf x) = 0
inners (suc l) (inner form ts) = 1 + total (inners l) ts

-- how many besides the root
unfoldable pub besides : (l : ℕ) → Tree l → ℕ
besides zero x' = elim x' [ ]
besides (suc l) (leaf x) = 0
besides (suc l) (inner form ts) = total (inners l) ts

-- ---- its bytes

unfoldable pub tree_bytes : (l : ℕ) → Tree l → List ℕ
tree_bytes zero x' = elim x' [ ]
tree_bytes (suc l) (leaf x) = 0 ∷ x ∷ []
tree_bytes (suc l) (inner form ts) = form ∷ length ts ∷ joined (tree_bytes l) ts

-- the two bytes of a node: "byte 0, variable", or "byte 1, 2 or 3" and "a child count from 1 to 16"
abbrev pub inner_bytes : ℕ → ℕ → Bool
inner_bytes form n = (leb 1 form && leb form 3) && (leb 1 n && leb n max_children)

-- every inner node of a tree has such bytes
unfoldable pub Formed : (l : ℕ) → Tree l → Type 0
Formed zero x' = elim x' [ ]
Formed (suc l) (leaf x) = Unit {0}
Formed (suc l) (inner form ts) = T (inner_bytes form (length ts)) × All (Formed l) ts

-- what stands at the front of bytes: nothing that is asked for, or that and the bytes after it
infix 20 ◌then◌
pub data Front (A : Type 0) : Type 0 where
  nothing : Front A
  ◌then◌ : A → List ℕ → Front A

abbrev pub map_front : {A B : Type 0} → (A → B) → Front A → Front B
map_front f nothing = nothing
map_front f (a then rest) = f a then rest

-- n of them, one after the other, each read by `one`
abbrev pub next : {A B : Type 0} → Front A → (A → List ℕ → Front B) → Front B
next nothing go = nothing
next (a then rest) go = go a rest

unfoldable pub several : {A : Type 0} → (List ℕ → Front A) → ℕ → List ℕ → Front (List A)
several one zero s = [] then s
several one (suc n) s = next (one s) (λ a rest. map_front (λ xs. a ∷ xs) (several one n rest))

-- a tree of at most l levels
unfoldable pub tree_in : (l : ℕ) → List ℕ → Front (Tree l)
tree_in zero s = nothing
tree_in (suc l) [] = nothing
tree_in (suc l) (a ∷ []) = nothing
tree_in (suc l) (a ∷ b ∷ rest) =
    cond (eqb a 0) (leaf b then rest) (cond (inner_bytes a b) (map_front (λ ts. inner a ts) (several (tree_in l) b rest)) nothing)
