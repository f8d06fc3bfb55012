-- The nodes of trees as they stand in their bytes, two bytes a node: what a walk over the bytes finds. The laws in proofs/ say that it is what the tree has.
use Rattle.std.specs.Prelude.{ℕ, zero, suc, ◌+◌, ◌-◌, ◌*◌, ◌≡◌, Bool, false, cond, ◌||◌, List, [], ◌∷◌, map, T, eqb, ltb, ℤ, pos, get_or, drop}
use Rattle.trees.specs.Tree.{inner_bytes}
use Rattle.program.specs.Program.{Rule}
use Rattle.program.specs.Readings.{Valuation}
use Rattle.program.specs.declared.Variable.{Variable}
use Rattle.nested.specs.Flatten.{node_rule, node_gives}

-- ---- bytes of nodes

-- the bytes of a leaf, or of an inner node
abbrev pub node_bytes : ℕ → ℕ → Bool
node_bytes a b = eqb a 0 || inner_bytes a b

-- how many children a node of these bytes has, and how many inner nodes it is
abbrev pub children_of : ℕ → ℕ → ℕ
children_of a b = cond (eqb a 0) 0 b

abbrev pub inner_of : ℕ → ℕ
inner_of a = cond (eqb a 0) 0 1

-- n trees stand at the front of the bytes
unfoldable pub Stand : List ℕ → ℕ → Type 0
Stand [] zero = Unit {0}
Stand [] (suc n) = ⊥
Stand (a ∷ []) zero = Unit {0}
Stand (a ∷ []) (suc n) = ⊥
Stand (a ∷ b ∷ rest) zero = Unit {0}
Stand (a ∷ b ∷ rest) (suc n) = T (node_bytes a b) × Stand rest (children_of a b + n)

-- the bytes after n trees
unfoldable pub past : List ℕ → ℕ → List ℕ
past [] n = []
past (a ∷ []) n = a ∷ []
past (a ∷ b ∷ rest) zero = a ∷ b ∷ rest
past (a ∷ b ∷ rest) (suc n) = past rest (children_of a b + n)

-- the inner nodes of n trees
unfoldable pub inners_passed : List ℕ → ℕ → ℕ
inners_passed [] n = 0
inners_passed (a ∷ []) n = 0
inners_passed (a ∷ b ∷ rest) zero = 0
inners_passed (a ∷ b ∷ rest) (suc n) = inner_of a + inners_passed rest (children_of a b + n)

-- the bytes are one tree's
pub record OneTree (s : List ℕ) : Type 0 where
  pub stands : Stand s 1
  pub ends : past s 1 ≡ []

-- ---- all nodes

unfoldable pub inners_in : List ℕ → ℕ
inners_in [] = 0
inners_in (a ∷ []) = 0
inners_in (a ∷ b ∷ rest) = inner_of a + inners_in rest

unfoldable pub leaves_in : List ℕ → List ℕ
leaves_in [] = []
leaves_in (a ∷ []) = []
leaves_in (a ∷ b ∷ rest) = cond (eqb a 0) (b ∷ leaves_in rest) (leaves_in rest)

-- some element has the property
unfoldable pub any_in : (ℕ → Bool) → List ℕ → Bool
any_in p [] = false
any_in p (x ∷ xs) = p x || any_in p xs

-- some element has the property or stands twice
unfoldable pub twice_with : (ℕ → Bool) → List ℕ → Bool
twice_with p [] = false
twice_with p (x ∷ xs) = p x || twice_with (λ y. eqb y x || p y) xs

-- ---- inner nodes as rules, n being the first number that is free

-- the variable that stands for the tree at the front
abbrev pub operand_in : ℕ → List ℕ → ℕ
operand_in n [] = 0
operand_in n (a ∷ []) = 0
operand_in n (a ∷ b ∷ rest) = cond (eqb a 0) b n

-- those of c trees
unfoldable pub operands_in : ℕ → ℕ → List ℕ → List ℕ
operands_in n zero s = []
operands_in n (suc c) s = operand_in n s ∷ operands_in (n + inners_passed s 1) c (past s 1)

-- the rules of the inner nodes: the first heads into n
unfoldable pub rules_in : ℕ → List ℕ → List Rule
rules_in n [] = []
rules_in n (a ∷ []) = []
rules_in n (a ∷ b ∷ rest) = cond (eqb a 0) (rules_in n rest) (node_rule a n (operands_in (suc n) b rest) ∷ rules_in (suc n) rest)

-- the root's rule: a leaf root is a sum of one
abbrev pub root_rule : ℕ → ℕ → List ℕ → Rule
root_rule h n [] = node_rule 0 h []
root_rule h n (a ∷ []) = node_rule 0 h []
root_rule h n (a ∷ b ∷ rest) = cond (eqb a 0) (node_rule 1 h (b ∷ [])) (node_rule a h (operands_in n b rest))

-- the rules of a tree with its head
unfoldable pub flat_rules : ℕ → ℕ → List ℕ → List Rule
flat_rules h n s = root_rule h n s ∷ rules_in n (drop 2 s)

-- ---- how many bytes the rules have: 7, and 4 for each child

unfoldable pub size_in : List ℕ → ℕ
size_in [] = 0
size_in (a ∷ []) = 0
size_in (a ∷ b ∷ rest) = cond (eqb a 0) (size_in rest) (7 + 4 * b + size_in rest)

abbrev pub root_size : List ℕ → ℕ
root_size [] = 0
root_size (a ∷ []) = 0
root_size (a ∷ b ∷ rest) = cond (eqb a 0) 11 (7 + 4 * b)

unfoldable pub flat_size : List ℕ → ℕ
flat_size s = root_size s + size_in (drop 2 s)

-- ---- the values of the inner nodes

-- those of the list from number n on, and a's below it
abbrev pub extended : Valuation → ℕ → List ℤ → Valuation
extended a n values v = cond (ltb v n) (a v) (get_or values (v - n) (pos 0))

unfoldable pub values_in : Valuation → ℕ → List ℕ → List ℤ
values_in a n [] = []
values_in a n (x ∷ []) = []
values_in a n (x ∷ y ∷ rest) =
    cond (eqb x 0) (values_in a n rest)
    (let values = values_in a (suc n) rest in node_gives x (map (extended a (suc n) values) (operands_in (suc n) y rest)) ∷ values)

-- variables of one kind with these lows and highs
unfoldable pub ranged : ℕ → List ℤ → List ℤ → List Variable
ranged kind [] highs = []
ranged kind (low ∷ lows) [] = []
ranged kind (low ∷ lows) (high ∷ highs) = record { kind = kind; low = low; high = high } ∷ ranged kind lows highs
