-- Document 02, wish 6, "Nested sums": what flatten answers and writes, by the bytes of each nested file and of its plain file, whatever the lent buffer holds
-- before.
use Rattle.std.specs.Prelude.{ℕ, zero, suc, ◌<◌, ◌≤◌, ◌≡◌, List, [], ◌∷◌, ◌++◌, pos, length, drop, replicate}
use Rattle.format.specs.Limits.{max_file}
use Rattle.trees.specs.Tree as node
use Rattle.program.specs.Reading.{refused, Reads}
use Rattle.normal.specs.Normalizes.{refusal, written}
use Rattle.nested.specs.Nested.{Rooted, Nested}
use Rattle.nested.specs.Flatten.{node_rule}
use Rattle.nested.specs.TreeRefusals.{rooted_refusal}
use Rattle.nested.specs.FlattenCall.{FlattenCall}
use Rattle.plans.specs.Starred.{variable, small}
use Rattle.plans.specs.Arrivals.{natural}
use Rattle.normalized.specs.Samples.{rule, once, plain, a_from_1, b_from_1, at_most_5, ordered}

-- a lent buffer of n bytes, the length of o, or more: the call answers n and leaves o, and after it the buffer's own bytes. A shorter one: 17, and its own bytes
pub record Written (s : List ℕ) (n : ℕ) (o : List ℕ) : Type 0 where
  pub told : length o ≡ n
  pub call : (b : List ℕ) → n ≤ length b → FlattenCall s b (written n) (o ++ drop n b)
  pub roomless : (b : List ℕ) → length b < n → FlattenCall s b (refusal 17 0) b

-- whatever the buffer: this number and place, and its own bytes
abbrev pub Refused : List ℕ → ℕ → ℕ → Type 0
Refused s n at = (b : List ℕ) → FlattenCall s b (refusal n at) b

-- ---- fields

-- a variable in m..n, for m and n from 0 to 255; in -4..4; in 0..n and -n..0 for 15,000 and 15,001 by their bytes
abbrev pub ranged : ℕ → ℕ → ℕ → List ℕ → List ℕ
ranged kind m n rest = variable kind 0x00 m 0x00 n rest

abbrev four : ℕ → List ℕ → List ℕ
four kind rest = variable kind 0xFF 0xFC 0x00 0x04 rest

abbrev wide : ℕ → List ℕ → List ℕ
wide n rest = variable 0 0x00 0x00 0x3A n rest

abbrev wide_below : ℕ → List ℕ → List ℕ
wide_below n rest = variable 0 0xC5 n 0x00 0x00 rest

-- a tree: its value has n bytes, the head and the nodes
abbrev pub tree : ℕ → ℕ → List ℕ → List ℕ
tree n head rest = 0x05 ∷ 0x00 ∷ n ∷ head ∷ rest

-- a leaf; a sum, a max and a min of n children
abbrev pub leaf : ℕ → List ℕ → List ℕ
leaf v rest = 0x00 ∷ v ∷ rest

abbrev pub sum : ℕ → List ℕ → List ℕ
sum n rest = 0x01 ∷ n ∷ rest

abbrev pub max : ℕ → List ℕ → List ℕ
max n rest = 0x02 ∷ n ∷ rest

abbrev pub min : ℕ → List ℕ → List ℕ
min n rest = 0x03 ∷ n ∷ rest

-- n sums of one, each in the one before; the leaves 0 to n - 1, the last first
abbrev sums : ℕ → List ℕ → List ℕ
sums zero rest = rest
sums (suc n) rest = sum 1 (sums n rest)

abbrev leaves : ℕ → List ℕ → List ℕ
leaves zero rest = rest
leaves (suc n) rest = leaf n (leaves n rest)

-- plain rules for the head h: v; u + v; the larger or the smaller of u and v (forms 2 and 3); that of v alone; the size of v
abbrev pub same : ℕ → ℕ → List ℕ → List ℕ
same h v rest = rule 8 1 h (small 0 (once v rest))

abbrev pub both : ℕ → ℕ → ℕ → List ℕ → List ℕ
both h u v rest = rule 12 1 h (small 0 (once u (once v rest)))

abbrev pub pick : ℕ → ℕ → ℕ → ℕ → List ℕ → List ℕ
pick form h u v rest = rule 12 form h (small 0 (plain u (plain v rest)))

abbrev pub one : ℕ → ℕ → ℕ → List ℕ → List ℕ
one form h v rest = rule 8 form h (small 0 (plain v rest))

abbrev size : ℕ → ℕ → List ℕ → List ℕ
size h v rest = one 5 h v rest

-- ---- files, and what is written for them

-- t founded in 0..100, r founded in 0..50, d standard in 0..10 and e standard in 2..20
abbrev pub delays : List ℕ → List ℕ
delays rest = ranged 1 0 100 (ranged 1 0 50 (ranged 0 0 10 (ranged 0 2 20 rest)))

-- "reach plus the larger of two delays": t ≥ r + max(d, e)
abbrev pub delayed : List ℕ
delayed = delays (tree 11 0 (sum 2 (leaf 1 (max 2 (leaf 2 (leaf 3 []))))))

-- an added variable m founded in 2..20; t ≥ r + m; m ≥ max(d, e)
abbrev delayed-flat : List ℕ
delayed-flat = delays (ranged 1 2 20 (both 0 1 4 (pick 2 4 2 3 [])))

-- t founded from above and r founded in 0..50, d standard in 0..10 and e standard in 2..20
abbrev pub arrivals : List ℕ → List ℕ
arrivals rest = ranged 2 0 50 (ranged 1 0 50 (ranged 0 0 10 (ranged 0 2 20 rest)))

-- t ≤ max(r, d + min(e, t))
abbrev pub early : List ℕ
early = arrivals (tree 15 0 (max 2 (leaf 1 (sum 2 (leaf 2 (min 2 (leaf 3 (leaf 0 []))))))))

-- m in 0..30 and n in 0..20, founded from above; t ≤ max(r, m); m ≤ d + n; n ≤ min(e, t)
abbrev early_flat : List ℕ
early_flat = arrivals (ranged 2 0 30 (ranged 2 0 20 (pick 2 0 1 4 (both 4 2 5 (pick 3 5 3 0 [])))))

-- a and b founded, x standard in 0..10, y in 3..7, z in 1..9, w in 0..4
abbrev pub six : List ℕ → List ℕ
six rest = natural 1 (natural 1 (natural 0 (ranged 0 3 7 (ranged 0 1 9 (ranged 0 0 4 rest)))))

-- b ≥ 1; a + x ≤ 5; a ≥ max(min(x, y), z) + min(w, b); b ≥ max(x + y)
abbrev pub two_trees : List ℕ
two_trees = six (b_from_1 (at_most_5 0 2 (tree 19 0 (sum 2 (max 2 (min 2 (leaf 2 (leaf 3 (leaf 4 (min 2 (leaf 5 (leaf 1 (tree 9 1 (max 1 (sum 2 (leaf 2 (leaf 3 [])))))))))))))))))

-- the variables that the trees add: max(min(x, y), z), min(x, y), min(w, b), and x + y
abbrev pub six_and_four : List ℕ → List ℕ
six_and_four rest = six (ranged 1 1 9 (ranged 1 0 7 (ranged 1 0 4 (ranged 1 3 17 rest))))

-- the root's rule of the first tree, then those of its other nodes; likewise for the second
abbrev pub first_tree : List ℕ → List ℕ
first_tree rest = both 0 6 8 (pick 2 6 7 4 (pick 3 7 2 3 (pick 3 8 5 1 rest)))

abbrev pub second_tree : List ℕ → List ℕ
second_tree rest = one 2 1 9 (both 9 2 3 rest)

abbrev two_trees_flat : List ℕ
two_trees_flat = six_and_four (b_from_1 (first_tree (second_tree (at_most_5 0 2 []))))

-- a and b founded in 0..10, and a tree for a: its value has n bytes
abbrev pub pair : ℕ → List ℕ → List ℕ
pair n rest = natural 1 (natural 1 (tree n 0 rest))

-- a ≥ b, a leaf alone
abbrev pub leaf_root : List ℕ
leaf_root = pair 3 (leaf 1 [])

abbrev leaf_root_flat : List ℕ
leaf_root_flat = natural 1 (natural 1 (same 0 1 []))

-- a ≥ max(a, b)
abbrev pub own_leaf : List ℕ
own_leaf = pair 7 (max 2 (leaf 0 (leaf 1 [])))

-- a ≥ b, in n sums of one
abbrev pub deep : ℕ → ℕ → List ℕ
deep bytes n = pair bytes (sums n (leaf 1 []))

abbrev deep_flat : List ℕ
deep_flat =
    natural 1 (natural 1 (natural 1 (natural 1 (natural 1 (natural 1 (natural 1 (natural 1
    (same 0 2 (same 2 3 (same 3 4 (same 4 5 (same 5 6 (same 6 7 (same 7 1 []))))))))))))))

-- a founded in 0..10, x standard in 0..15,000 and y standard in 0..15,000 or 0..15,001, by its last byte
abbrev large : ℕ → List ℕ → List ℕ
large n rest = natural 1 (wide 0x98 (wide n rest))

-- a ≥ min(x + y, a): a tree brings its node's value back to 10
abbrev pub brought_back : ℕ → List ℕ
brought_back n = large n (tree 11 0 (min 2 (sum 2 (leaf 1 (leaf 2 (leaf 0 []))))))

-- an added variable in 0..30,000
abbrev brought_back_flat : List ℕ
brought_back_flat = large 0x98 (variable 1 0x00 0x00 0x75 0x30 (pick 3 0 3 0 (both 3 1 2 [])))

-- a ≥ x + y
abbrev pub large_root : List ℕ
large_root = large 0x99 (tree 7 0 (sum 2 (leaf 1 (leaf 2 []))))

-- x in -15,000..0 and y in -15,001..0
abbrev large_below : List ℕ
large_below = natural 1 (wide_below 0x68 (wide_below 0x67 (tree 9 0 (max 1 (sum 2 (leaf 1 (leaf 2 [])))))))

-- a and b founded in -4..4, s standard in m..4; a ≥ 1; b ≥ |a|; a ≥ the sum of max(b, s) alone
abbrev pub closing : ℕ → List ℕ
closing m = four 1 (four 1 (ranged 0 m 4 (a_from_1 (size 1 0 (tree 9 0 (sum 1 (max 2 (leaf 1 (leaf 2 [])))))))))

-- the added variable is in m..4; a ≥ that variable; it is max(b, s) or more
abbrev pub closing-flat : ℕ → List ℕ
closing-flat m = four 1 (four 1 (ranged 0 m 4 (ranged 1 m 4 (a_from_1 (size 1 0 (same 0 3 (pick 2 3 1 2 [])))))))

-- ---- for 5: trees in a program of many variables or rules

abbrev many : ℕ → ℕ → List Rooted → Nested
many n k ts = record {
  plain = record { variables = replicate n (record { kind = 1; low = pos 0; high = pos 1 }); rules = replicate k (node_rule 1 0 []); constraints = [] };
  trees = ts;
}

-- v0 ≥ v0; v0 ≥ v0, in one sum more; v0 ≥ max(v0) + max(v1)
abbrev none_added : Rooted
none_added = record { head = 0; tree = node.leaf 0 }

abbrev one_added : Rooted
one_added = record { head = 0; tree = node.inner 1 (node.inner 1 (node.leaf 0 ∷ []) ∷ []) }

abbrev two_added : Rooted
two_added = record { head = 0; tree = node.inner 1 (node.inner 2 (node.leaf 0 ∷ []) ∷ node.inner 2 (node.leaf 1 ∷ []) ∷ []) }

-- "5 (counting what a tree adds)": 256 variables and 2,048 rules
pub record Counted : Type 0 where
  pub variables_256 : rooted_refusal (many 255 0 []) one_added ≡ 0
  pub variables_257 : rooted_refusal (many 255 0 []) two_added ≡ 5
  pub declared_256 : rooted_refusal (many 256 0 []) none_added ≡ 0
  -- what the trees before have added counts
  pub trees_256 : rooted_refusal (many 253 0 (two_added ∷ [])) one_added ≡ 0
  pub trees_257 : rooted_refusal (many 254 0 (two_added ∷ [])) one_added ≡ 5
  -- the root's rule too
  pub rules_2048 : rooted_refusal (many 2 2047 []) none_added ≡ 0
  pub rules_2049 : rooted_refusal (many 2 2047 []) one_added ≡ 5
  pub tree_rules_2048 : rooted_refusal (many 2 2043 (two_added ∷ [])) one_added ≡ 0
  pub tree_rules_2049 : rooted_refusal (many 2 2044 (two_added ∷ [])) one_added ≡ 5

pub record Samples : Type 0 where
  -- "children keep their order"; "the exact range" is that of all children: 2 is from e, 20 too
  pub worked_example : Written delayed 70 delayed-flat
  -- "a variable of the head's kind": from above, though its leaves are standard, or founded from below. The head may be a leaf
  pub from_above_is : Written early 93 early_flat
  -- "trees in file order and nodes as they stand in the tree"; "new rules follow the old so too, each root's before its tree's"; constraints stay last.
  -- A variable may stand in two trees
  pub in_order_is : Written two_trees 187 two_trees_flat
  -- "a leaf root is a sum of one"
  pub leaf_alone : Written leaf_root 27 leaf_root_flat
  pub head_as_leaf : Written own_leaf 31 (natural 1 (natural 1 (pick 2 0 0 1 [])))
  -- a file without trees is written as it stands
  pub empty : Written [] 0 []
  pub no_trees : Written ordered 46 ordered
  -- "at most 8 levels, root included": a leaf is one
  pub levels_8 : Written (deep 17 7) 141 deep_flat
  pub levels_9 : Refused (deep 19 8) 18 16
  -- 18: "malformed, too deep or leaves bytes over"
  pub byte_over : Refused (pair 4 (leaf 1 (0x00 ∷ []))) 18 16
  pub leaf_over : Refused (pair 5 (leaf 1 (leaf 0 []))) 18 16
  pub node_byte_4 : Refused (pair 5 (0x04 ∷ 0x01 ∷ leaf 1 [])) 18 16
  pub no_children : Refused (pair 3 (sum 0 [])) 18 16
  pub children_17 : Refused (pair 37 (max 17 (leaves 17 []))) 18 16
  pub child_missing : Refused (pair 5 (sum 2 (leaf 1 []))) 18 16
  pub half_a_node : Refused (pair 2 (0x00 ∷ [])) 18 16
  pub no_tree_is : Refused (natural 1 (natural 1 (tree 1 0 []))) 18 16
  pub no_head : Refused (natural 1 (natural 1 (0x05 ∷ 0x00 ∷ 0x00 ∷ []))) 18 16
  -- 18 before 9: the head is not declared
  pub malformed_first : Refused (natural 1 (tree 4 7 (leaf 0 (0x00 ∷ [])))) 18 8
  -- 9: of 16 children only two are declared; a head that is standard, or not declared; the number of a variable that a tree adds, the one before or its own
  pub leaf_undeclared : Refused (pair 35 (max 16 (leaves 16 []))) 9 16
  pub head_standard : Refused (natural 0 (natural 1 (tree 3 0 (leaf 1 [])))) 9 16
  pub head_undeclared : Refused (natural 1 (natural 1 (tree 3 2 (leaf 1 [])))) 9 16
  pub added_before : Refused (pair 7 (sum 1 (sum 1 (leaf 1 (tree 3 0 (leaf 2 [])))))) 9 26
  pub added_here : Refused (pair 9 (sum 2 (leaf 2 (max 1 (leaf 1 []))))) 9 16
  -- 11: "a tree as one body"; 9 before 11
  pub leaf_twice : Refused (pair 9 (sum 2 (leaf 1 (max 1 (leaf 1 []))))) 11 16
  pub undeclared_twice : Refused (pair 7 (sum 2 (leaf 2 (leaf 2 [])))) 9 16
  -- 19: "an added variable's range passes ±30,000", also where the tree above it does not; 11 before 19
  pub range_30000 : Written (brought_back 0x98) 62 brought_back_flat
  pub range_30001 : Refused (brought_back 0x99) 19 24
  pub range_below : Refused large_below 19 24
  pub twice_first : Refused (large 0x99 (tree 11 0 (sum 2 (sum 2 (leaf 1 (leaf 2 (leaf 1 []))))))) 11 24
  -- the root adds no variable
  pub root_30001 : Written large_root 39 (large 0x99 (both 0 1 2 []))
  -- tags: 2 where the tree is cut short; after a tree 4 is unknown, and 0; a rule or a constraint is below it
  pub cut_short_is : Refused (pair 4 (leaf 1 [])) 2 16
  pub tag_4_after : Refused (pair 3 (leaf 1 (0x04 ∷ 0x00 ∷ 0x00 ∷ []))) 3 22
  pub tag_0_after : Refused (pair 3 (leaf 1 (0x00 ∷ 0x00 ∷ 0x00 ∷ []))) 3 22
  pub rule_after : Refused (pair 3 (leaf 1 (a_from_1 []))) 4 22
  pub constraint_after : Refused (pair 3 (leaf 1 (at_most_5 0 1 []))) 4 22
  -- "13 is judged on the plain file, its place in the nested one": the second rule's, which is another in the plain file
  pub closed_by_tree : Refused (closing 0) 13 31
  pub plain_place : Reads (closing-flat 0) (refused 13 39)
  -- there s is in 4..4 and max(b, s) too: the added variable's rule is idle and draws no edge
  pub idle_inside : Written (closing 4) 76 (closing-flat 4)
  -- "Plain readers still refuse tag 5"
  pub plain_reader : Reads delayed (refused 3 32)
  -- 1, of the nested file
  pub too_long : (s : List ℕ) → max_file < length s → Refused s 1 0
