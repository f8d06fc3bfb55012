-- Wrong ways to flatten a nested file, each refuted by what it would answer or write for a small file: the call has one answer and one output, and they are
-- others.
use Prim.Native.Nat.{ℕ, ◌≤◌}
use mathlib.Core.Path.{◌≡◌, refl, sym, ap, ◌∙◌}
use mathlib.Core.Bool.{Bool, true, false}
use mathlib.Core.List.{List, [], ◌∷◌}
use native.Mathlib.Omega.{arith}
use lib.Dec.{eqb, ltb, lit<, lit≤}
use lib.ListN.{length, get_or, take, drop, replicate}
use lib.Seq.{take-append_seam}
use borrow.Author.Tests.{eq-eqb, ltb-true, ltb-false}
use Rattle.program.proofs.Conditions.{never}
use Rattle.normal.specs.Normalizes.{Answer, refusal, written}
use Rattle.nested.specs.FlattenCall.{FlattenCall}
use Rattle.nested.proofs.Calls.{flatten_unique}
use Rattle.plans.specs.Starred.{small}
use Rattle.plans.specs.Arrivals.{natural}
use Rattle.normalized.specs.Samples.{rule, once, b_from_1, a_from_1, at_most_5}
use Rattle.normalized.proofs.WrongForms.{word, first}
use Rattle.nestedplans.specs.Samples.{Written, Refused, ranged, tree, leaf, sum, max, both, pick, one, delays, delayed, arrivals, early, six_and_four, six, first_tree}
use Rattle.nestedplans.specs.Samples.{second_tree, two_trees, pair, leaf_root, own_leaf, deep, brought_back, large_root, closing}
use Rattle.nestedplans.proofs.Samples.{samples}

-- ---- one answer, one output

-- the place of a refusal
abbrev place_of : Answer → ℕ
place_of (refusal n at) = at
place_of (written n) = 0

-- no call with the file s writes; none answers the length of p and writes p; none is refused with the number m; none with that and this place
abbrev pub NeverWrites : List ℕ → Type 0
NeverWrites s = (b b' : List ℕ) (m : ℕ) → FlattenCall s b (written m) b' → ⊥

abbrev pub NeverWritten : List ℕ → List ℕ → Type 0
NeverWritten s p = (b b' : List ℕ) → FlattenCall s b (written (length p)) b' → take (length p) b' ≡ p → ⊥

abbrev pub NeverRefused : List ℕ → ℕ → Type 0
NeverRefused s m = (b b' : List ℕ) (at : ℕ) → FlattenCall s b (refusal m at) b' → ⊥

abbrev pub NeverAt : List ℕ → ℕ → ℕ → Type 0
NeverAt s m at = (b b' : List ℕ) → FlattenCall s b (refusal m at) b' → ⊥

module _ {s o : List ℕ} {n : ℕ} (w : Written s n o) where
  -- where the buffer is shorter than the output the call does not write
  room : {b b' : List ℕ} {m : ℕ} → FlattenCall s b (written m) b' → n ≤ length b
  room {b} q = go (ltb (length b) n) refl
    where
      go : (t : Bool) → ltb (length b) n ≡ t → n ≤ length b
      go true e = let f = ap word (flatten_unique q (w.roomless b (ltb-true (length b) n e))).0 in absurd (omega arith)
      go false e = ltb-false (length b) n e

  -- a call that writes answers n and writes o
  only_length : {b b' : List ℕ} {m : ℕ} → FlattenCall s b (written m) b' → m ≡ n
  only_length {b} q = ap first (flatten_unique q (w.call b (room q))).0

  only_output : {b b' : List ℕ} {m : ℕ} → FlattenCall s b (written m) b' → take m b' ≡ o
  only_output {b} {b'} {m} q =
      ap (λ (k : ℕ). take k b') (only_length q ∙ sym w.told) ∙ ap (take (length o)) (flatten_unique q (w.call b (room q))).1 ∙ take-append_seam o (drop n b)

  -- the byte at i is another; past the end of either it counts as 0
  differs : (p : List ℕ) (i : ℕ) → eqb (get_or p i 0) (get_or o i 0) ≡ false → NeverWritten s p
  differs p i f b b' q e = never (eq-eqb (get_or p i 0) (get_or o i 0) (ap (λ (l : List ℕ). get_or l i 0) (sym e ∙ only_output q))) f

  -- a call that does not write is refused with 17
  only_17 : {b b' : List ℕ} {m at : ℕ} → FlattenCall s b (refusal m at) b' → m ≡ 17
  only_17 {b} {m = m} q = go (ltb (length b) n) refl
    where
      go : (t : Bool) → ltb (length b) n ≡ t → m ≡ 17
      go true e = ap first (flatten_unique q (w.roomless b (ltb-true (length b) n e))).0
      go false e = let f = ap word (flatten_unique q (w.call b (ltb-false (length b) n e))).0 in absurd (omega arith)

  other_than_17 : (m : ℕ) → eqb m 17 ≡ false → NeverRefused s m
  other_than_17 m f b b' at q = never (eq-eqb m 17 (only_17 q)) f

module _ {s : List ℕ} {n at : ℕ} (r : Refused s n at) where
  turned_down : NeverWrites s
  turned_down b b' m q = let e = ap word (flatten_unique q (r b)).0 in omega arith

  other_number : (m : ℕ) → eqb m n ≡ false → NeverRefused s m
  other_number m f b b' to q = never (eq-eqb m n (ap first (flatten_unique q (r b)).0)) f

  other_place : (m to : ℕ) → eqb to at ≡ false → NeverAt s m to
  other_place m to f b b' q = never (eq-eqb to at (ap place_of (flatten_unique q (r b)).0)) f

-- ---- the children, and the range of a node

-- one that reverses the children of each node
pub not_children_reversed : NeverWritten delayed (delays (ranged 1 2 20 (both 0 4 1 (pick 2 4 3 2 []))))
not_children_reversed = differs samples.worked_example _ 47 refl

-- one that names the leaves of a node before its inner children
pub not_leaves_first : NeverWritten two_trees (six_and_four (b_from_1 (both 0 6 8 (pick 2 6 4 7 (pick 3 7 2 3 (pick 3 8 5 1 (second_tree (at_most_5 0 2 []))))))))
not_leaves_first = differs samples.in_order_is _ 109 refl

-- one that takes a node's range from its first child alone, from the last, or from the least low to the largest high
pub not_the_first_childs_range : NeverWritten delayed (delays (ranged 1 0 10 (both 0 1 4 (pick 2 4 2 3 []))))
not_the_first_childs_range = differs samples.worked_example _ 37 refl

pub not_the_last_childs_range : NeverWritten early (arrivals (ranged 2 0 50 (ranged 2 0 50 (pick 2 0 1 4 (both 4 2 5 (pick 3 5 3 0 []))))))
not_the_last_childs_range = differs samples.from_above_is _ 39 refl

pub not_all_that_the_children_reach : NeverWritten delayed (delays (ranged 1 0 20 (both 0 1 4 (pick 2 4 2 3 []))))
not_all_that_the_children_reach = differs samples.worked_example _ 37 refl

-- one that gives an added variable its head's range
pub not_the_heads_range : NeverWritten delayed (delays (ranged 1 0 100 (both 0 1 4 (pick 2 4 2 3 []))))
not_the_heads_range = differs samples.worked_example _ 37 refl

-- one that takes a min for a max, in its range and in its rule; in its rule alone
pub not_max_for_min : NeverWritten early (arrivals (ranged 2 2 60 (ranged 2 2 50 (pick 2 0 1 4 (both 4 2 5 (pick 2 5 3 0 []))))))
not_max_for_min = differs samples.from_above_is _ 37 refl

pub not_max_for_min_in_rules : NeverWritten early (arrivals (ranged 2 0 30 (ranged 2 0 20 (pick 2 0 1 4 (both 4 2 5 (pick 2 5 3 0 []))))))
not_max_for_min_in_rules = differs samples.from_above_is _ 81 refl

-- one that adds variables of kind 1 under a head of kind 2, or of a leaf's kind
pub not_kind_1_under_2 : NeverWritten early (arrivals (ranged 1 0 30 (ranged 1 0 20 (pick 2 0 1 4 (both 4 2 5 (pick 3 5 3 0 []))))))
not_kind_1_under_2 = differs samples.from_above_is _ 35 refl

pub not_a_leafs_kind : NeverWritten delayed (delays (ranged 0 2 20 (both 0 1 4 (pick 2 4 2 3 []))))
not_a_leafs_kind = differs samples.worked_example _ 35 refl

-- one that gives the children of a max coefficients, as those of a sum; those of a sum none
pub not_coefficients_of_max : NeverWritten delayed (delays (ranged 1 2 20 (both 0 1 4 (rule 12 2 4 (small 0 (once 2 (once 3 [])))))))
not_coefficients_of_max = differs samples.worked_example _ 65 refl

pub not_coefficients_0 : NeverWritten leaf_root (natural 1 (natural 1 (one 1 0 1 [])))
not_coefficients_0 = differs samples.leaf_alone _ 26 refl

-- one that makes a leaf root a max of one
pub not_a_max_of_one : NeverWritten leaf_root (natural 1 (natural 1 (one 2 0 1 [])))
not_a_max_of_one = differs samples.leaf_alone _ 19 refl

-- ---- the order of rules and variables

-- one that writes the root's rule after its tree's
pub not_root_last : NeverWritten delayed (delays (ranged 1 2 20 (pick 2 4 2 3 (both 0 1 4 []))))
not_root_last = differs samples.worked_example _ 43 refl

-- one that writes the roots' rules of all trees first; the trees in the other order; the trees before the file's rules; the constraints before the trees
pub not_all_roots_first : NeverWritten two_trees (six_and_four (b_from_1 (both 0 6 8 (one 2 1 9 (pick 2 6 7 4 (pick 3 7 2 3 (pick 3 8 5 1 (both 9 2 3 (at_most_5 0 2 [])))))))))
not_all_roots_first = differs samples.in_order_is _ 104 refl

pub not_last_tree_first : NeverWritten two_trees (six_and_four (b_from_1 (second_tree (first_tree (at_most_5 0 2 [])))))
not_last_tree_first = differs samples.in_order_is _ 89 refl

pub not_trees_first : NeverWritten two_trees (six_and_four (first_tree (second_tree (b_from_1 (at_most_5 0 2 [])))))
not_trees_first = differs samples.in_order_is _ 82 refl

pub not_after_constraints : NeverWritten two_trees (six_and_four (b_from_1 (at_most_5 0 2 (first_tree (second_tree [])))))
not_after_constraints = differs samples.in_order_is _ 87 refl

-- one that numbers the nodes by levels: max(min(x, y), z), min(w, b), then min(x, y); or the children of a node before it
pub not_by_levels : NeverWritten two_trees
    (six (ranged 1 1 9 (ranged 1 0 4 (ranged 1 0 7 (ranged 1 3 17 (b_from_1 (both 0 6 7 (pick 2 6 8 4 (pick 3 7 5 1 (pick 3 8 2 3 (second_tree (at_most_5 0 2 []))))))))))))
not_by_levels = differs samples.in_order_is _ 63 refl

pub not_children_before : NeverWritten two_trees
    (six (ranged 1 0 7 (ranged 1 1 9 (ranged 1 0 4 (ranged 1 3 17 (b_from_1 (both 0 7 8 (pick 3 6 2 3 (pick 2 7 6 4 (pick 3 8 5 1 (second_tree (at_most_5 0 2 []))))))))))))
not_children_before = differs samples.in_order_is _ 53 refl

-- ---- 18

-- one that counts a leaf as no level: nine levels pass
pub not_a_ninth_level : NeverWrites (deep 19 8)
not_a_ninth_level = turned_down samples.levels_9

-- one that lets seven pass and no more
pub not_18_at_8 : NeverRefused (deep 17 7) 18
not_18_at_8 = other_than_17 samples.levels_8 _ refl

-- one that takes no note of bytes left over: half a node, or a whole one
pub not_a_byte_left_over : NeverWrites (pair 4 (leaf 1 (0x00 ∷ [])))
not_a_byte_left_over = turned_down samples.byte_over

pub not_a_leaf_left_over : NeverWrites (pair 5 (leaf 1 (leaf 0 [])))
not_a_leaf_left_over = turned_down samples.leaf_over

-- one that judges 9 before 18
pub not_9_before_18 : NeverRefused (natural 1 (tree 4 7 (leaf 0 (0x00 ∷ [])))) 9
not_9_before_18 = other_number samples.malformed_first _ refl

-- ---- 9, 11 and 19

-- one that takes the number of an added variable for a declared one
pub not_an_added_leaf : NeverWrites (pair 7 (sum 1 (sum 1 (leaf 1 (tree 3 0 (leaf 2 []))))))
not_an_added_leaf = turned_down samples.added_before

-- one that takes a tree for a standard variable
pub not_a_standard_head : NeverWrites (natural 0 (natural 1 (tree 3 0 (leaf 1 []))))
not_a_standard_head = turned_down samples.head_standard

-- one that judges 11 by node; by file; with the head among the leaves
pub not_11_by_node : NeverWrites (pair 9 (sum 2 (leaf 1 (max 1 (leaf 1 [])))))
not_11_by_node = turned_down samples.leaf_twice

pub not_11_by_file : NeverRefused two_trees 11
not_11_by_file = other_than_17 samples.in_order_is _ refl

pub not_11_of_the_head : NeverRefused own_leaf 11
not_11_of_the_head = other_than_17 samples.head_as_leaf _ refl

-- one that judges 19 by the root's value alone, which a min brings back; by the root's value too; at 30,000
pub not_19_by_the_root_alone : NeverWrites (brought_back 0x99)
not_19_by_the_root_alone = turned_down samples.range_30001

pub not_19_of_the_root : NeverRefused large_root 19
not_19_of_the_root = other_than_17 samples.root_30001 _ refl

pub not_19_at_30000 : NeverRefused (brought_back 0x98) 19
not_19_at_30000 = other_than_17 samples.range_30000 _ refl

-- ---- 4 and 13

-- one that takes a rule after a tree
pub not_a_rule_after : NeverWrites (pair 3 (leaf 1 (a_from_1 [])))
not_a_rule_after = turned_down samples.rule_after

-- one that gives 13 its place in the plain file, or the place of the tree that closes the component
pub not_the_plain_place : NeverAt (closing 0) 13 39
not_the_plain_place = other_place samples.closed_by_tree _ _ refl

pub not_the_trees_place : NeverAt (closing 0) 13 42
not_the_trees_place = other_place samples.closed_by_tree _ _ refl

-- one that judges 13 without the trees; one that takes each tree as one rule there, so that its idle node draws an edge
pub not_13_without_trees : NeverWrites (closing 0)
not_13_without_trees = turned_down samples.closed_by_tree

pub not_13_by_whole_trees : NeverRefused (closing 4) 13
not_13_by_whole_trees = other_than_17 samples.idle_inside _ refl

-- ---- the answer, the buffer and 17

-- one that answers the length of its input
pub not_the_inputs_length : {b b' : List ℕ} → FlattenCall delayed b (written 46) b' → ⊥
not_the_inputs_length q = let e = only_length samples.worked_example q in omega arith

-- one that compares the buffer with the input's length
pub not_17_by_the_input : {b b' : List ℕ} {n : ℕ} → length b ≡ length delayed → FlattenCall delayed b (written n) b' → ⊥
not_17_by_the_input e q = let h = room samples.worked_example q in omega arith

-- one that asks for more than the output's length
pub not_17_at_the_output : {b b' : List ℕ} {at : ℕ} → length b ≡ 70 → FlattenCall delayed b (refusal 17 at) b' → ⊥
not_17_at_the_output {b} e q = let f = ap word (flatten_unique q (samples.worked_example.call b (omega arith))).0 in omega arith

-- one that gives 17 before a field's refusal, or before 13
pub not_17_before_2 : NeverRefused (pair 4 (leaf 1 [])) 17
not_17_before_2 = other_number samples.cut_short_is _ refl

pub not_17_before_13 : NeverRefused (closing 0) 17
not_17_before_13 = other_number samples.closed_by_tree _ refl

-- one that writes though it turns the call down
pub not_written_on_17 : {r : Answer} → FlattenCall delayed (9 ∷ []) r (1 ∷ []) → ⊥
not_written_on_17 q =
    let e : ◌≡◌ {A = ℕ} 1 9 = ap (λ (l : List ℕ). get_or l 0 0) (flatten_unique q (samples.worked_example.roomless (9 ∷ []) (lit< tt))).1 in
    omega arith

-- one that clears the bytes after its output
pub not_rest_cleared : {b' : List ℕ} {r : Answer} → FlattenCall delayed (replicate 80 9) r b' → get_or b' 70 0 ≡ 0 → ⊥
not_rest_cleared {b'} q e =
    let f : get_or b' 70 0 ≡ 9 = ap (λ (l : List ℕ). get_or l 70 0) (flatten_unique q (samples.worked_example.call (replicate 80 9) (lit≤ tt))).1 in
    omega arith
