-- One tree more: what it adds to the plain program and to the bytes of its file.
use Prim.Native.Nat.{ℕ, suc, ◌+◌, ◌<◌}
use mathlib.Core.Path.{◌≡◌, refl, sym, ap, ◌∙◌}
use mathlib.Core.List.{List, [], ◌∷◌, ◌++◌, append-nil, append_assoc}
use native.Mathlib.Omega.{arith}
use lib.Signed.{◌≤ℤ◌}
use lib.ListN.{length, length-append}
use Rattle.trees.specs.Tree.{max_levels, leaves, joined, Formed}
use Rattle.program.specs.Fields.{tag_at, value_at, place}
use Rattle.program.specs.Program.{variable, variable_in, no_variable}
use Rattle.program.specs.Refusals.{item_refusal}
use Rattle.program.specs.Idle.{lows, highs}
use Rattle.program.specs.Encode.{All, each, variable_bytes, rule_bytes, constraint_bytes, encode}
use Rattle.program.specs.declared.Variable.{Variable}
use Rattle.program.proofs.Encoding.{all_map}
use Rattle.program.proofs.Promises.{variable_promised}
use Rattle.program.proofs.RoundTrip.{each_append}
use Rattle.nested.specs.Nested.{tree_tag, Rooted, Nested, treed, treed_of, nested}
use Rattle.nested.specs.Flatten.{root_values, added_by, tree_variables, tree_rules, along, added_variables, added_rules, flatten}
use Rattle.nested.specs.FlattenCall.{flat}
use Rattle.nested.specs.TreeRefusals.{variables_added}
use Rattle.nested.proofs.Alongs.{all_at, along_append}
use Rattle.nested.proofs.TreeFields.{one_tree, same_program}
use Rattle.nested.proofs.TreeLengths.{variables_length}
use Rattle.nested.proofs.Lists.{Each}
use Rattle.nested.proofs.Nodes.{climbs_up}
use Rattle.nested.proofs.Values.{root_goes}

-- the nested program with this tree after its own
abbrev pub grown : Nested → Rooted → Nested
grown N t = record { plain = N.plain; trees = N.trees ++ (t ∷ []) }

pub nested_grown : (s : List ℕ) (k : ℕ) (t : Rooted) → tag_at s (place s k) ≡ tree_tag → treed_of (value_at s (place s k)) ≡ treed t
    → nested s (suc k) ≡ grown (nested s k) t
nested_grown s k t h e = λ i. record { plain = same_program s k h i; trees = one_tree s k h e i }

joined_more : {A B : Type 0} (f : A → List B) (xs : List A) (x : A) → joined f (xs ++ (x ∷ [])) ≡ joined f xs ++ f x
unfolding joined
joined_more f [] x = append-nil (f x)
joined_more f (y ∷ xs) x = ap (λ r. f y ++ r) (joined_more f xs x) ∙ sym (append_assoc (f y) (joined f xs) (f x))

three : (xs ys zs : List ℕ) → length (xs ++ (ys ++ zs)) ≡ length xs + length ys + length zs
three xs ys zs = omega (arith, length-append xs (ys ++ zs), length-append ys zs)

module _ (N : Nested) (t : Rooted) where
  abbrev vs : List Variable
  vs = N.plain.variables

  pub variables_more : (flatten (grown N t)).variables ≡ (flatten N).variables ++ tree_variables vs t
  unfolding flatten
  variables_more = ap (λ r. vs ++ r) (joined_more (tree_variables vs) N.trees t) ∙ sym (append_assoc vs (added_variables vs N.trees) (tree_variables vs t))

  constraints_same : (flatten (grown N t)).constraints ≡ (flatten N).constraints
  unfolding flatten
  constraints_same = refl

  -- the first number that is free
  free : length vs + variables_added N.trees ≡ length (flatten N).variables
  unfolding flatten
  free = sym (length-append vs (added_variables vs N.trees) ∙ ap (λ n. length vs + n) (variables_length vs N.trees))

  pub rules_more : (flatten (grown N t)).rules ≡ (flatten N).rules ++ tree_rules (length (flatten N).variables) t
  unfolding flatten along
  rules_more =
      let old = N.plain.rules in
      let n = length vs in
      let last = tree_rules (length (flatten N).variables) t in
      let e : along added_by tree_rules (n + variables_added N.trees) (t ∷ []) ≡ last =
      append-nil (tree_rules (n + variables_added N.trees) t) ∙ ap (λ (m : ℕ). tree_rules m t) free in
      ap (λ r. old ++ r) (along_append added_by tree_rules n N.trees (t ∷ []) ∙ ap (λ r. added_rules n N.trees ++ r) e)
      ∙ sym (append_assoc old (added_rules n N.trees) last)

  pub flat_more : length (flat (grown N t))
      ≡ length (flat N) + length (each variable_bytes (tree_variables vs t)) + length (each rule_bytes (tree_rules (length (flatten N).variables) t))
  unfolding encode
  flat_more =
      let P = flatten N in
      let xs = tree_variables vs t in
      let rs = tree_rules (length P.variables) t in
      let v = ap (each variable_bytes) variables_more ∙ each_append variable_bytes P.variables xs in
      let r = ap (each rule_bytes) rules_more ∙ each_append rule_bytes P.rules rs in
      let c : (flatten (grown N t)).constraints ≡ P.constraints = constraints_same in
      omega (
        arith,
        three (each variable_bytes (flatten (grown N t)).variables) (each rule_bytes (flatten (grown N t)).rules) (each constraint_bytes (flatten (grown N t)).constraints),
        three (each variable_bytes P.variables) (each rule_bytes P.rules) (each constraint_bytes P.constraints),
        ap length v,
        ap length r,
        ap (λ k. length (each constraint_bytes k)) c,
        length-append (each variable_bytes P.variables) (each variable_bytes xs),
        length-append (each rule_bytes P.rules) (each rule_bytes rs),
      )

-- ---- no tree

pub flatten_plain : (N : Nested) → N.trees ≡ [] → flatten N ≡ N.plain
unfolding flatten joined along
flatten_plain N e = λ i. record {
  variables = (ap (λ ts. N.plain.variables ++ added_variables N.plain.variables ts) e ∙ append-nil N.plain.variables) i;
  rules = (ap (λ ts. N.plain.rules ++ added_rules (length N.plain.variables) ts) e ∙ append-nil N.plain.rules) i;
  constraints = N.plain.constraints;
}

-- ---- the ends of added ranges

-- with each declared low at most its high, no added variable's low is above its high
pub ends_ordered : (vs : List Variable) (t : Rooted) → All (λ x. item_refusal vs (variable x) ≡ 0) vs → Formed max_levels t.tree
    → All (λ x. x < length vs) (leaves max_levels t.tree) → Each ◌≤ℤ◌ (root_values max_levels (lows vs) t.tree) (root_values max_levels (highs vs) t.tree)
ends_ordered vs t fine formed declared =
    root_goes climbs_up (lows vs) (highs vs) max_levels t.tree (
      formed,
      all_map (λ x h. (variable_promised vs (variable_in vs x) (all_at (λ y. item_refusal vs (variable y) ≡ 0) no_variable vs fine x h)).in_order_is)
          (leaves max_levels t.tree) declared,
    )
