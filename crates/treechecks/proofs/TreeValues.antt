-- The value of a field of tag 5, and the tree in it.
use Prim.Native.Nat.{ℕ, ◌+◌, ◌-◌, ◌<◌, ◌≤◌}
use mathlib.Core.Path.{◌≡◌, refl, sym, ap, ◌∙◌, subst}
use mathlib.Core.Logic.{◌≢◌}
use mathlib.Core.Bool.{Bool, true, false, not, ◌||◌}
use mathlib.Core.List.{List, [], ◌∷◌}
use native.Mathlib.Omega.{arith}
use lib.Dec.{eqb, leb, ltb}
use lib.ListN.{length, get_or, take, drop, length-drop}
use lib.Seq.{take_all, drop-length, drop-cons, drop-drop}
use borrow.Author.Tests.{eqb-true, eqb-false}
use Rattle.trees.specs.Tree.{Tree, max_levels, leaves, Front, nothing, ◌then◌, tree_in}
use Rattle.format.specs.Limits.{max_variables, max_rules}
use Rattle.program.specs.Program.{rule}
use Rattle.program.specs.Refusals.{wrong_head, undeclared, variable_twice}
use Rattle.program.specs.declared.Variable.{Variable}
use Rattle.nested.specs.Nested.{Rooted, Nested, malformed, treed, wholly, treed_of}
use Rattle.nested.specs.Flatten.{added_by}
use Rattle.nested.specs.TreeRefusals.{body_of, tree_too_many, rooted_refusal, treed_refusal}
use Rattle.flat.specs.Flat.{inners_in, leaves_in, any_in, twice_with, OneTree}
use Rattle.flat.proofs.Standing.{stand_some}
use Rattle.flat.proofs.FlatLaws.{flat_one, flat_besides, flat_leaves}
use Rattle.flat.proofs.LeafTests.{any_leaf, twice_leaf}
use Rattle.descent.specs.Ends.{Ended}
use Rattle.treechecks.specs.Checking.{Shapes, tree, none, Sizes}

-- ---- from a value to its tree

pub record Holds (v : List ℕ) (t : Rooted) : Type 0 where
  pub head_is : get_or v 0 0 ≡ t.head
  pub tree_is : tree_in max_levels (drop 1 v) ≡ (t.tree then [])

not_treed : {C : Type 0} {t : Rooted} → malformed ≡ treed t → C
not_treed e = let z : ◌≡◌ {A = ℕ} 0 1 = cc in absurd (omega arith)

pub holds : (v : List ℕ) (t : Rooted) → treed_of v ≡ treed t → Holds v t
unfolding treed_of
holds [] t e = not_treed e
holds (h ∷ s) t e = go (tree_in max_levels s) refl e
  where
    go : (f : Front (Tree max_levels)) → tree_in max_levels s ≡ f → wholly h f ≡ treed t → Holds (h ∷ s) t
    go nothing d q = not_treed q
    go (u then (x ∷ rest)) d q = not_treed q
    go (u then []) d q =
        let same : record { head = h; tree = u } ≡ t = cc in
        subst (Holds (h ∷ s)) same (record { head_is = refl; tree_is = d })

-- ---- and back

module _ (v : List ℕ) (some : 1 ≤ length v) where
  front : treed_of v ≡ wholly (get_or v 0 0) (tree_in max_levels (drop 1 v))
  unfolding treed_of
  front = ap treed_of (drop-cons v 0 0 (omega arith))

  pub no_tree_is : tree_in max_levels (drop 1 v) ≡ nothing → Shapes v false
  no_tree_is e = none (front ∙ ap (wholly (get_or v 0 0)) e)

  pub ended_shapes : (e : ℕ) → Ended (tree_in max_levels (drop 1 v)) v 1 e → (b : Bool) → b ≡ eqb e (length v) → Shapes v b
  ended_shapes e x true q =
      let l : e ≡ length v = eqb-true e (length v) (sym q) in
      tree (record { head = get_or v 0 0; tree = x.what })
      (front ∙ ap (wholly (get_or v 0 0)) (x.is ∙ ap (λ (rest : List ℕ). x.what then rest) (ap (λ (n : ℕ). drop n v) l ∙ drop-length v)))
  ended_shapes e x false q =
      let l : e ≢ length v = eqb-false e (length v) (sym q) in
      let b : e < length v = let i = x.inside in omega arith in
      none (front ∙ ap (wholly (get_or v 0 0)) (x.is ∙ ap (λ (rest : List ℕ). x.what then rest) (drop-cons v e 0 b)))

pub empty_shapes : (v : List ℕ) → length v ≡ 0 → Shapes v false
unfolding treed_of
empty_shapes [] e = none refl
empty_shapes (x ∷ xs) e = absurd (omega arith)

-- ---- what the walks find

module _ (v : List ℕ) (t : Rooted) (e : treed_of v ≡ treed t) where
  read : tree_in max_levels (drop 1 v) ≡ (t.tree then [])
  read = (holds v t e).tree_is

  pub value_one : OneTree (drop 1 v)
  value_one = flat_one max_levels (drop 1 v) t.tree read

  pub value_adds : inners_in (drop 3 v) ≡ added_by t
  value_adds = sym (ap inners_in (drop-drop 2 1 v)) ∙ flat_besides max_levels (drop 1 v) t.tree read

  value_leaves : leaves_in (drop 1 v) ≡ leaves max_levels t.tree
  value_leaves = flat_leaves max_levels (drop 1 v) t.tree read

  pub value_undeclared : (vs : List Variable) → undeclared vs (rule (body_of t)) ≡ (wrong_head vs (get_or v 0 0) || any_in (leb (length vs)) (leaves_in (drop 1 v)))
  unfolding undeclared
  value_undeclared vs =
      rw ((holds v t e).head_is, value_leaves, any_leaf vs (leaves max_levels t.tree))

  pub value_twice : variable_twice (rule (body_of t)) ≡ twice_with (λ x. false) (leaves_in (drop 1 v))
  unfolding variable_twice
  value_twice = sym (ap (twice_with (λ x. false)) value_leaves ∙ twice_leaf (leaves max_levels t.tree))

  -- at least a head and a node
  pub value_long : 3 ≤ length v
  value_long = let s = stand_some (drop 1 v) 0 value_one.stands in omega (arith, length-drop 1 v)

-- the stretch of a value from k on
pub part_rest : (k : ℕ) (v : List ℕ) → take (length v - k) (drop k v) ≡ drop k v
part_rest k v = take_all (length v - k) (drop k v) (omega (arith, length-drop k v))

-- ---- the first refusal, up to 11

pub formed : {v : List ℕ} {b : Bool} → Shapes v b → not b ≡ false → (t : Rooted) × (treed_of v ≡ treed t)
formed (tree t m) e = (t, m)
formed (none m) e = absurd (let z : ◌≡◌ {A = ℕ} 0 1 = cc in omega arith)

pub malformed_of : {v : List ℕ} {b : Bool} → Shapes v b → not b ≡ true → treed_of v ≡ malformed
malformed_of (tree t m) e = absurd (let z : ◌≡◌ {A = ℕ} 0 1 = cc in omega arith)
malformed_of (none m) e = m

module _ (N : Nested) (v : List ℕ) where
  pub refused_18 : treed_of v ≡ malformed → 18 ≡ treed_refusal N (treed_of v)
  refused_18 e = sym (ap (treed_refusal N) e)

  module _ (t : Rooted) (m : treed_of v ≡ treed t) where
    pub too_many_is : {variables rules added : ℕ} → Sizes N variables rules → added ≡ added_by t
        → (ltb max_variables (variables + added) || ltb max_rules (rules + (1 + added))) ≡ tree_too_many N t
    unfolding tree_too_many
    too_many_is z a = rw (z.variables_are, z.rules_are, a)

    pub refused_5 : tree_too_many N t ≡ true → 5 ≡ treed_refusal N (treed_of v)
    unfolding rooted_refusal
    refused_5 a = sym (ap (treed_refusal N) m ∙ simp a)

    pub refused_9 : tree_too_many N t ≡ false → undeclared N.plain.variables (rule (body_of t)) ≡ true → 9 ≡ treed_refusal N (treed_of v)
    unfolding rooted_refusal
    refused_9 a b = sym (ap (treed_refusal N) m ∙ simp (a, b))

    pub refused_11 : tree_too_many N t ≡ false → undeclared N.plain.variables (rule (body_of t)) ≡ false → variable_twice (rule (body_of t)) ≡ true
        → 11 ≡ treed_refusal N (treed_of v)
    unfolding rooted_refusal
    refused_11 a b c = sym (ap (treed_refusal N) m ∙ simp (a, b, c))
