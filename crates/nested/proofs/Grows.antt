-- The plain file is at least as long as the nested one: old fields keep their bytes, and the rules of a tree take no fewer bytes than its field.
use Prim.Native.Nat.{ℕ, zero, suc, ◌+◌, ◌*◌, ◌≤◌}
use mathlib.Core.Path.{◌≡◌, ap, ◌∙◌}
use mathlib.Core.List.{List, [], ◌∷◌, ◌++◌, append-nil}
use native.Mathlib.Omega.{arith}
use lib.ListN.{length, length-append, length-map}
use lib.Seq.{length-take-le}
use Rattle.trees.specs.Tree.{Tree, leaf, inner, max_levels, joined, total, inners, tree_bytes}
use Rattle.program.specs.Fields.{value_at, place}
use Rattle.program.specs.Program.{Program, program}
use Rattle.program.specs.Encode.{each, rule_bytes, variable_bytes, constraint_bytes, encode, Bytes}
use Rattle.program.proofs.Conditions.{last_or}
use Rattle.program.proofs.Encoding.{rule_size}
use Rattle.program.proofs.Places.{place_suc, value_length, passed_inside}
use Rattle.program.proofs.RoundTrip.{each_append, passed_encoded}
use Rattle.nested.specs.Nested.{Rooted, Nested, trees, nested}
use Rattle.nested.specs.Flatten.{node_term, node_rule, along, operands, inner_rules, root_rules, added_by, tree_rules, added_variables, added_rules, flatten}
use Rattle.nested.specs.NestedReading.{NestedWhole}
use Rattle.nested.specs.FlattenCall.{flat}
use Rattle.nested.proofs.Alongs.{along_append}
use Rattle.nested.proofs.TreeLengths.{operands_length}
use Rattle.nested.proofs.TreeFields.{TreeField, spelt, one_tree}
use Rattle.nested.proofs.PassedFine.{Standing, standing}

-- ---- the rules of a tree

node_size : (form h : ℕ) (xs : List ℕ) → length (rule_bytes (node_rule form h xs)) ≡ 7 + 4 * length xs
node_size form h xs = omega (arith, rule_size (node_rule form h xs), length-map xs (node_term form))

-- the rules of trees, each of which takes its bytes less those of one node
module _ (l : ℕ) (one : (n : ℕ) (t : Tree l) → length (tree_bytes l t) ≤ 2 + length (each rule_bytes (inner_rules l n t))) where
  several_size : (n : ℕ) (ts : List (Tree l)) → length (joined (tree_bytes l) ts) ≤ 2 * length ts + length (each rule_bytes (along (inners l) (inner_rules l) n ts))
  unfolding joined along
  several_size n [] = omega arith
  several_size n (t ∷ ts) =
      let rest = along (inners l) (inner_rules l) (n + inners l t) ts in
      let bytes = each_append rule_bytes (inner_rules l n t) rest in
      let e = several_size (n + inners l t) ts in
      omega (
        arith,
        one n t,
        ap length bytes,
        length-append (each rule_bytes (inner_rules l n t)) (each rule_bytes rest),
        length-append (tree_bytes l t) (joined (tree_bytes l) ts),
      )

inner_size : (l n : ℕ) (t : Tree l) → length (tree_bytes l t) ≤ 2 + length (each rule_bytes (inner_rules l n t))
unfolding tree_bytes inner_rules
inner_size zero n t = absurd t
inner_size (suc l) n (leaf x) = omega arith
inner_size (suc l) n (inner form ts) =
    let xs = operands l (suc n) ts in
    let rest = along (inners l) (inner_rules l) (suc n) ts in
    omega (
      arith,
      several_size l (inner_size l) (suc n) ts,
      node_size form n xs,
      operands_length l (suc n) ts,
      length-append (rule_bytes (node_rule form n xs)) (each rule_bytes rest),
    )

root_size_lem : (l h n : ℕ) (t : Tree l) → 4 + length (tree_bytes l t) ≤ length (each rule_bytes (root_rules l h n t))
unfolding tree_bytes root_rules
root_size_lem zero h n t = absurd t
root_size_lem (suc l) h n (leaf x) = omega (arith, node_size 1 h (x ∷ []), length-append (rule_bytes (node_rule 1 h (x ∷ []))) [])
root_size_lem (suc l) h n (inner form ts) =
    let xs = operands l n ts in
    let rest = along (inners l) (inner_rules l) n ts in
    omega (
      arith,
      several_size l (inner_size l) n ts,
      node_size form h xs,
      operands_length l n ts,
      length-append (rule_bytes (node_rule form h xs)) (each rule_bytes rest),
    )

-- ---- the fields of trees

-- so many bytes have the rules of trees
abbrev grown : ℕ → List Rooted → ℕ
grown n ts = length (each rule_bytes (added_rules n ts))

grown_more : (n : ℕ) (ts : List Rooted) (t : Rooted) → grown n ts + (4 + length (tree_bytes max_levels t.tree)) ≤ grown n (ts ++ (t ∷ []))
unfolding along
grown_more n ts t =
    let m = n + total added_by ts in
    let last = tree_rules m t in
    let e = ap (each rule_bytes) (along_append added_by tree_rules n ts (t ∷ []) ∙ ap (◌++◌ (added_rules n ts)) (append-nil last)) in
    omega (
      arith,
      root_size_lem max_levels t.head m t.tree,
      ap length (e ∙ each_append rule_bytes (added_rules n ts) last),
      length-append (each rule_bytes (added_rules n ts)) (each rule_bytes last),
    )

-- a field has its header, its head and the tree's bytes
field_size : {s : List ℕ} {k : ℕ} (f : TreeField s k) → place s (suc k) ≡ place s k + (4 + length (tree_bytes max_levels f.rooted.tree))
field_size {s} {k} f =
    let at = place s k in
    omega (arith, place_suc s k, value_length s at f.whole, ap length (spelt (value_at s at) f.rooted f.means).bytes)

module _ {s : List ℕ} {k : ℕ} (o : Standing s k) (n : ℕ) where
  trees_size : (j : ℕ) → o.plain ≤ j → j ≤ k → place s j ≤ place s o.plain + grown n (trees s j)
  trees_size zero h l = let e : o.plain ≡ 0 = omega arith in omega (arith, ap (place s) e)
  trees_size (suc j) h l = last_or (λ i. place s (suc j) ≤ place s i + grown n (trees s (suc j))) (suc j) o.plain (omega arith)
      (λ m. let f = o.treed j (omega arith) (omega arith) in
      omega (
        arith,
        trees_size j (omega arith) (omega arith),
        field_size f.0,
        grown_more n (trees s j) f.0.rooted,
        ap (grown n) (one_tree s j f.1 f.0.means),
      )) (omega arith)

-- ---- the file

flat_size_lem : (N : Nested) → length (encode N.plain) + grown (length N.plain.variables) N.trees ≤ length (flat N)
unfolding encode flatten
flat_size_lem N =
    let vs = N.plain.variables in
    let more = added_variables vs N.trees in
    let rs = N.plain.rules in
    let added = added_rules (length vs) N.trees in
    let constraints = each constraint_bytes N.plain.constraints in
    omega (
      arith,
      length-append (each variable_bytes vs) (each rule_bytes rs ++ constraints),
      length-append (each rule_bytes rs) constraints,
      length-append (each variable_bytes (vs ++ more)) (each rule_bytes (rs ++ added) ++ constraints),
      length-append (each rule_bytes (rs ++ added)) constraints,
      ap length (each_append variable_bytes vs more),
      length-append (each variable_bytes vs) (each variable_bytes more),
      ap length (each_append rule_bytes rs added),
      length-append (each rule_bytes rs) (each rule_bytes added),
    )

pub whole_grows : {s : List ℕ} {k : ℕ} → Bytes s → NestedWhole s k → length s ≤ length (flat (nested s k))
whole_grows {s} {k} b w =
    let o = standing k w.passed in
    let front = length-take-le (place s o.plain) s (passed_inside o.plain o.passed) in
    omega (
      arith,
      w.ended,
      trees_size o (length (program s k).variables) k o.before (omega arith),
      ap length (passed_encoded b o.plain o.passed),
      ap (λ (P : Program). length (encode P)) o.means,
      flat_size_lem (nested s k),
    )
