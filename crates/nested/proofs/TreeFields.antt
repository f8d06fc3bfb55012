-- A field of tag 5 that meets no refusal: its tree, and the bytes of its value.
use Prim.Native.Nat.{ℕ, suc, ◌+◌, ◌≤◌}
use mathlib.Core.Path.{◌≡◌, refl, ap, ◌∙◌, subst}
use mathlib.Core.Logic.{◌≢◌}
use mathlib.Core.Bool.{true, false}
use mathlib.Core.List.{List, [], ◌∷◌, ◌++◌, append-nil}
use native.Mathlib.Omega.{arith}
use lib.Dec.{ltb}
use lib.ListN.{length, drop}
use borrow.Author.Tests.{ltb-false, eq-eqb, ne_eqb}
use Rattle.format.specs.Limits.{max_variables, max_rules}
use Rattle.trees.specs.Tree.{Tree, max_levels, tree_bytes, Formed, Front, nothing, ◌then◌, tree_in}
use Rattle.trees.proofs.TreeFiles.{tree_read}
use Rattle.program.specs.Tables.{Condition, ◌when◌}
use Rattle.program.specs.Fields.{tag_at, value_at, next_at, place}
use Rattle.program.specs.Program.{rule, program}
use Rattle.program.specs.Refusals.{cut_short, undeclared, variable_twice, field_refusal}
use Rattle.program.proofs.Conditions.{neither, none_first}
use Rattle.program.proofs.Places.{not_cut, program_suc}
use Rattle.nested.specs.Nested.{tree_tag, Rooted, Nested, Treed, malformed, treed, wholly, treed_of, trees, nested}
use Rattle.nested.specs.Flatten.{added_by}
use Rattle.nested.specs.TreeRefusals.{body_of, variables_added, rules_added, tree_too_many, added_outside, rooted_refusal, treed_refusal, nested_refusal}
use Rattle.nested.proofs.FineNested.{FineTree}

-- ---- the value

-- the head, then the bytes of the tree
pub record Spelt (v : List ℕ) (t : Rooted) : Type 0 where
  pub bytes : v ≡ t.head ∷ tree_bytes max_levels t.tree
  pub formed : Formed max_levels t.tree

not_treed : {C : Type 0} {t : Rooted} → malformed ≡ treed t → C
not_treed e = let z : ◌≡◌ {A = ℕ} 0 1 = cc in absurd (omega arith)

pub spelt : (v : List ℕ) (t : Rooted) → treed_of v ≡ treed t → Spelt v t
unfolding treed_of
spelt [] t e = not_treed e
spelt (h ∷ s) t e = go (tree_in max_levels s) refl e
  where
    go : (f : Front (Tree max_levels)) → tree_in max_levels s ≡ f → wholly h f ≡ treed t → Spelt (h ∷ s) t
    go nothing d q = not_treed q
    go (u then (x ∷ rest)) d q = not_treed q
    go (u then []) d q =
        let r = tree_read max_levels s u [] d in
        let same : record { head = h; tree = u } ≡ t = cc in
        subst (Spelt (h ∷ s)) same (record { bytes = ap (λ (b : List ℕ). h ∷ b) (r.0 ∙ append-nil (tree_bytes max_levels u)); formed = r.1 })

-- ---- the field

pub record TreeField (s : List ℕ) (k : ℕ) : Type 0 where
  pub rooted : Rooted
  pub means : treed_of (value_at s (place s k)) ≡ treed rooted
  pub whole : next_at s (place s k) ≤ length s
  pub few_variables : length (program s k).variables + variables_added (trees s k) + added_by rooted ≤ max_variables
  pub few_rules : length (program s k).rules + rules_added (trees s k) + (1 + added_by rooted) ≤ max_rules
  pub fine : FineTree (program s k).variables rooted

-- the conditions of a tree, one by one
abbrev pub conditions : Nested → Rooted → List Condition
conditions N t =
    let vs = N.plain.variables in
    (5 when tree_too_many N t) ∷ (9 when undeclared vs (rule (body_of t))) ∷ (11 when variable_twice (rule (body_of t))) ∷ (19 when added_outside vs t) ∷ []

module _ {s : List ℕ} {k : ℕ} where
  treed_fine : (t : Rooted) → treed_of (value_at s (place s k)) ≡ treed t → cut_short s (place s k) ≡ false → rooted_refusal (nested s k) t ≡ 0 → TreeField s k
  unfolding rooted_refusal tree_too_many
  treed_fine t m c e =
      let N = nested s k in
      let cs = conditions N t in
      let many = none_first 4 _ (drop 1 cs) e in
      let declared = none_first 8 _ (drop 2 cs) many.1 in
      let once = none_first 10 _ (drop 3 cs) declared.1 in
      let inside = none_first 18 _ (drop 4 cs) once.1 in
      let vs = length N.plain.variables + variables_added N.trees + added_by t in
      let rs = length N.plain.rules + rules_added N.trees + (1 + added_by t) in
      let few = neither (ltb max_variables vs) (ltb max_rules rs) many.0 in
      record {
        rooted = t;
        means = m;
        whole = not_cut s (place s k) c;
        few_variables = ltb-false max_variables vs few.0;
        few_rules = ltb-false max_rules rs few.1;
        fine = record { formed = (spelt (value_at s (place s k)) t m).formed; declared = declared.0; once = once.0; inside = inside.0 };
      }

  pub tree_field : tag_at s (place s k) ≡ tree_tag → nested_refusal s k ≡ 0 → TreeField s k
  unfolding nested_refusal
  tree_field h e =
      let value = treed_refusal (nested s k) (treed_of (value_at s (place s k))) in
      let c = none_first 1 (cut_short s (place s k)) ((value when true) ∷ []) (simp (eq-eqb (tag_at s (place s k)) tree_tag h) at e) in
      go (treed_of (value_at s (place s k))) refl c.0 c.1
    where
      go : (t : Treed) → treed_of (value_at s (place s k)) ≡ t → cut_short s (place s k) ≡ false → treed_refusal (nested s k) t ≡ 0 → TreeField s k
      go malformed m c q = absurd (omega arith)
      go (treed t) m c q = treed_fine t m c q

-- ---- one field more

module _ (s : List ℕ) (k : ℕ) where
  pub trees_start : trees s 0 ≡ []
  unfolding trees
  trees_start = refl

  pub one_tree : {t : Rooted} → tag_at s (place s k) ≡ tree_tag → treed_of (value_at s (place s k)) ≡ treed t → trees s (suc k) ≡ trees s k ++ (t ∷ [])
  unfolding trees
  one_tree h e = rw (eq-eqb (tag_at s (place s k)) tree_tag h, e)

  pub same_trees : tag_at s (place s k) ≢ tree_tag → trees s (suc k) ≡ trees s k
  unfolding trees
  same_trees h = rw (ne_eqb (tag_at s (place s k)) tree_tag h) (append-nil (trees s k))

  -- a tree is no part of the plain program
  pub same_program : tag_at s (place s k) ≡ tree_tag → program s (suc k) ≡ program s k
  same_program h = program_suc s k ∙ rw h

  -- a field of another tag is read as in a plain file
  pub other_refusal : tag_at s (place s k) ≢ tree_tag → nested_refusal s k ≡ field_refusal s k
  unfolding nested_refusal field_refusal
  other_refusal h = rw (ne_eqb (tag_at s (place s k)) tree_tag h)
