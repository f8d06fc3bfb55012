-- A nested file whose fields pass: a plain file's fields, none of which meets a refusal, then trees. So its program is fine.
use Prim.Native.Nat.{ℕ, zero, suc, ◌+◌, ◌<◌, ◌≤◌}
use mathlib.Core.Path.{◌≡◌, refl, sym, ◌∙◌, subst}
use mathlib.Core.Logic.{◌≢◌}
use mathlib.Core.Bool.{Bool, true, false}
use mathlib.Core.List.{List, [], ◌∷◌}
use native.Mathlib.Numerals.{add-one}
use native.Mathlib.Omega.{arith}
use lib.Dec.{eqb}
use lib.ListN.{length}
use borrow.Author.Tests.{eqb-true, eqb-false}
use Rattle.format.specs.Limits.{max_file, max_variables, max_rules}
use Rattle.trees.specs.Tree.{total}
use Rattle.program.specs.Fields.{tag_at, place}
use Rattle.program.specs.Program.{program, no_variable, no_rule, no_constraint}
use Rattle.program.specs.Refusals.{field_refusal}
use Rattle.program.specs.Reading.{Passed}
use Rattle.program.specs.Encode.{All}
use Rattle.program.proofs.Conditions.{last_or}
use Rattle.program.proofs.Encoding.{all_of}
use Rattle.program.proofs.Places.{Fine, fine_field, counts, passed_none, passed_more, passed_less, before_suc, variable_stands, rule_at_is, constraint_at_is}
use Rattle.nested.specs.Nested.{tree_tag, trees, nested}
use Rattle.nested.specs.Flatten.{added_by}
use Rattle.nested.specs.TreeRefusals.{variables_added, rules_added, nested_refusal}
use Rattle.nested.specs.NestedReading.{NestedPassed}
use Rattle.nested.proofs.FineNested.{FineTree, FineNested}
use Rattle.nested.proofs.Alongs.{all_append, total_append}
use Rattle.nested.proofs.TreeFields.{TreeField, tree_field, trees_start, one_tree, same_trees, same_program, other_refusal}

-- ---- nested-passed fields, one more or fewer

pub nested_less : {s : List ℕ} {j k : ℕ} → NestedPassed s k → j ≤ k → NestedPassed s j
nested_less p h = record { short = p.short; stands = λ i l. p.stands i (omega arith); fine = λ i l. p.fine i (omega arith) }

pub nested_none : (s : List ℕ) → length s ≤ max_file → NestedPassed s 0
nested_none s h = record { short = h; stands = λ j l. absurd (omega arith); fine = λ j l. absurd (omega arith) }

pub nested_more : {s : List ℕ} {k : ℕ} → NestedPassed s k → place s k < length s → nested_refusal s k ≡ 0 → NestedPassed s (suc k)
nested_more {s} {k} p h e = record {
  short = p.short;
  stands = λ j l. last_or (λ i. place s i < length s) k j (omega arith) (p.stands j) h;
  fine = λ j l. last_or (λ i. nested_refusal s i ≡ 0) k j (omega arith) (p.fine j) e;
}

-- ---- a plain file's fields, then trees

pub record Standing (s : List ℕ) (k : ℕ) : Type 0 where
  pub plain : ℕ
  pub before : plain ≤ k
  pub passed : Passed s plain
  pub means : program s k ≡ program s plain
  pub treed : (j : ℕ) → plain ≤ j → j < k → TreeField s j × (tag_at s (place s j) ≡ tree_tag)
  pub few_variables : length (program s k).variables + variables_added (trees s k) ≤ max_variables
  pub few_rules : length (program s k).rules + rules_added (trees s k) ≤ max_rules
  pub fine_trees : All (FineTree (program s k).variables) (trees s k)

-- a plain file has no tree
pub plain_trees : {s : List ℕ} (k : ℕ) → Passed s k → trees s k ≡ []
plain_trees {s} zero p = trees_start s 0
plain_trees {s} (suc k) p =
    let f = fine_field s k (p.fine k (omega arith)) in
    same_trees s k (λ e. let l = f.tag_most in omega arith) ∙ plain_trees k (passed_less p (omega arith))

plain_standing : {s : List ℕ} (k : ℕ) → Passed s k → Standing s k
unfolding total
plain_standing {s} k p =
    let c = counts p in
    let e = plain_trees k p in
    record {
      plain = k;
      before = omega arith;
      passed = p;
      means = refl;
      treed = λ j l h. absurd (omega arith);
      few_variables = rw e (omega (arith, c.few_variables));
      few_rules = rw e (omega (arith, c.few_rules));
      fine_trees = rw e tt;
    }

-- where a field of another tag passes, no tree stands before it
no_tree_before : {s : List ℕ} (k : ℕ) (o : Standing s k) → Fine s k → o.plain ≡ k
no_tree_before zero o f = omega (arith, o.before)
no_tree_before {s} (suc j) o f = go (eqb o.plain (suc j)) refl
  where
    go : (t : Bool) → eqb o.plain (suc j) ≡ t → o.plain ≡ suc j
    go true e = eqb-true o.plain (suc j) e
    go false e =
        let h : o.plain ≢ suc j = eqb-false o.plain (suc j) e in
        let t = (o.treed j (omega (arith, o.before)) (omega arith)).1 in
        absurd (omega (arith, f.ascends, f.tag_most, before_suc s j))

module _ {s : List ℕ} {k : ℕ} (o : Standing s k) where
  standing_plain : place s k < length s → field_refusal s k ≡ 0 → Standing s (suc k)
  standing_plain h e =
      let p : Passed s k = subst (Passed s) (no_tree_before k o (fine_field s k e)) o.passed in
      plain_standing (suc k) (subst (Passed s) (add-one k) (passed_more p h e))

  standing_tree : tag_at s (place s k) ≡ tree_tag → TreeField s k → Standing s (suc k)
  unfolding total
  standing_tree h f =
      let t = f.rooted in
      let m = same_program s k h in
      let e = one_tree s k h f.means in
      let v = total_append added_by (trees s k) (t ∷ []) in
      let r = total_append (λ u. 1 + added_by u) (trees s k) (t ∷ []) in
      record {
        plain = o.plain;
        before = omega (arith, o.before);
        passed = o.passed;
        means = m ∙ o.means;
        treed = λ j l i. last_or (λ x. o.plain ≤ x → TreeField s x × (tag_at s (place s x) ≡ tree_tag)) k j i (λ b a. o.treed j a b) (λ a. (f, h)) l;
        few_variables = rw (m, e) (omega (arith, f.few_variables));
        few_rules = rw (m, e) (omega (arith, f.few_rules));
        fine_trees = rw (m, e) (all_append (FineTree (program s k).variables) (trees s k) (t ∷ []) o.fine_trees (f.fine, tt));
      }

  standing_more : place s k < length s → nested_refusal s k ≡ 0 → Standing s (suc k)
  standing_more h e = go (eqb (tag_at s (place s k)) tree_tag) refl
    where
      go : (t : Bool) → eqb (tag_at s (place s k)) tree_tag ≡ t → Standing s (suc k)
      go true q = let w = eqb-true (tag_at s (place s k)) tree_tag q in standing_tree w (tree_field w e)
      go false q = standing_plain h (sym (other_refusal s k (eqb-false (tag_at s (place s k)) tree_tag q)) ∙ e)

pub standing : {s : List ℕ} (k : ℕ) → NestedPassed s k → Standing s k
standing {s} zero p = plain_standing 0 (passed_none s p.short)
standing {s} (suc k) p = standing_more (standing k (nested_less p (omega arith))) (p.stands k (omega arith)) (p.fine k (omega arith))

-- ---- so the nested program is fine

standing_fine : {s : List ℕ} {k : ℕ} → Standing s k → FineNested (nested s k)
standing_fine {s} {k} o =
    let p = o.passed in
    let P = program s o.plain in
    record {
      few_variables = o.few_variables;
      few_rules = o.few_rules;
      few_constraints = rw o.means (counts p).few_constraints;
      fine_variables = rw o.means (all_of _ no_variable P.variables (λ x h. (variable_stands p h).fine));
      fine_rules = rw o.means (all_of _ no_rule P.rules (λ i h. (rule_at_is p h).fine));
      fine_constraints = rw o.means (all_of _ no_constraint P.constraints (λ i h. (constraint_at_is p h).fine));
      fine_trees = o.fine_trees;
    }

pub passed_fine : {s : List ℕ} {k : ℕ} → NestedPassed s k → FineNested (nested s k)
passed_fine {s} {k} p = standing_fine (standing k p)
