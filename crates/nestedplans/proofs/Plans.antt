-- Plans of nested files, by those of their plain files: the search finds the least model there.
use Prim.Native.Nat.{ℕ, ◌+◌, ◌*◌, ◌<◌, ◌≤◌}
use mathlib.Core.Path.{◌≡◌, refl, sym, ap₂, subst, fun_ext}
use mathlib.Core.Bool.{Bool, false, not, cond, ◌||◌}
use mathlib.Core.List.{List, [], ◌∷◌, ◌++◌}
use native.Mathlib.Omega.{arith}
use borrow.Author.Tests.{not-false}
use lib.Dec.{ltb, ltb→lt, nltb→le, lit<, lit≤}
use lib.IntN.{ℤ, pos}
use lib.ListN.{length, get_or-append}
use Rattle.format.specs.Limits.{max_file}
use Rattle.format.specs.Numbers.{signed}
use Rattle.program.specs.Tables.{any_below}
use Rattle.program.specs.Program.{Program, variable_in}
use Rattle.program.specs.Readings.{Valuation, valued}
use Rattle.program.specs.Reading.{Accepts}
use Rattle.program.specs.Variables.{no_more}
use Rattle.program.proofs.Conditions.{never, neither, none_below}
use Rattle.program.proofs.Tests.{cases, is_true, is_test}
use Rattle.program.proofs.Unique.{accepts_unique}
use Rattle.meaning.specs.Founded.{GivenNoMore}
use Rattle.meaning.specs.Stable.{assigned, Stable}
use Rattle.meaning.specs.Search.{found, search}
use Rattle.meaning.proofs.InRanges.{assigned_past, assigned_within}
use Rattle.plans.specs.Starred.{Plan, small}
use Rattle.plans.proofs.Starred.{outside_in, unmet_in, above_in, rule_met, all_inside, search_least, stable_plan, plan_of}
use Rattle.nested.specs.Nested.{Nested, nested}
use Rattle.nested.specs.Flatten.{flatten}
use Rattle.nested.specs.NestedReading.{NestedAccepts}
use Rattle.nested.specs.FlattenCall.{flat}
use Rattle.nested.specs.Meaning.{NestedRule, rule, tree, among, head_of, gives_in, nested_system, NestedStable, tree_gives}
use Rattle.nested.specs.Sentences.{restricted, completed}
use Rattle.nested.proofs.FlatProper.{flat_accepted}
use Rattle.nested.proofs.SameStable.{same_stable}
use Rattle.nested.proofs.Sentences.{accepts_fine}
use Rattle.nestedplans.specs.Plans.{StableNested, UnfoundedNested, circle, circle_above, crosswise, NestedPlans}
use Rattle.nestedplans.proofs.Reading as reading
use Rattle.nestedplans.proofs.Reading.{accepted_by}

-- ---- the values of the file's own variables

-- the assignment a, with values for added variables after it
own_values : (a more : List ℕ) (n : ℕ) → length a ≡ 2 * n → restricted n (assigned (a ++ more)) ≡ assigned a
own_values a more n l = fun_ext (λ v. cases (ltb v n) (λ b. cond b (assigned (a ++ more) v) (pos 0) ≡ assigned a v)
    (λ t. let h = ltb→lt v n t in ap₂ signed (get_or-append a more 0 (2 * v) (omega arith)) (get_or-append a more 0 (2 * v + 1) (omega arith)))
    (λ t. let h = nltb→le v n t in sym (assigned_past a v (omega arith))))

-- ---- every rule and tree is met

module _ (N : Nested) (θ : Valuation) where
  abbrev met : NestedRule → Bool
  met r = no_more (variable_in N.plain.variables (head_of N r)) (gives_in N r θ θ) (θ (head_of N r))

  -- one of the first n of these is not
  abbrev unmet : (ℕ → NestedRule) → ℕ → Bool
  unmet rules n = any_below n (λ i. not (met (rules i)))

  abbrev some_unmet : Bool
  some_unmet = unmet rule (length N.plain.rules) || unmet tree (length N.trees)

  all_met : some_unmet ≡ false → (r : NestedRule) → among N r → GivenNoMore (nested_system N) (head_of N r) (gives_in N r θ θ) (θ (head_of N r))
  all_met e (rule i) h = is_test (not-false (met (rule i)) (none_below _ (λ j. not (met (rule j))) (neither _ (unmet tree _) e).0 i h))
  all_met e (tree i) h = is_test (not-false (met (tree i)) (none_below _ (λ j. not (met (tree j))) (neither (unmet rule (length N.plain.rules)) _ e).1 i h))

-- ---- plans

module _ {s : List ℕ} {N : Nested} (x : NestedAccepts s N) (short : length (flat N) ≤ max_file) (a more : List ℕ) where
  abbrev n : ℕ
  n = length N.plain.variables

  abbrev P : Program
  P = flatten N

  abbrev θ : Valuation
  θ = assigned (a ++ more)

  plain : Accepts (flat N) P
  plain = flat_accepted (accepts_fine x) x.valid short

  module _ (l : length a ≡ 2 * n) (long : length (a ++ more) ≡ 2 * length P.variables) (inside : outside_in P θ ≡ false)
      (m : List ℤ) (least : search 9 P θ ≡ found m) where
    plan : Plan (flat N) (a ++ more) P
    plan = plan_of (a ++ more) plain long inside

    -- with these values of the added variables the plain file's plan is stable
    stable_by : above_in P θ (valued m) ≡ false → unmet_in P θ (length P.rules) ≡ false → length P.constraints ≡ 0 → StableNested s a
    stable_by e f c =
        let u = stable_plan plan 9 m least e f c in
        record {
          means = N;
          plan = record { accepts = x; long = l };
          stable = subst (NestedStable N) (own_values a more n l)
              ((same_stable (accepts_fine x)).none_other θ (subst (λ (Q : Program). Stable Q θ) (accepts_unique u.plan.accepts plain) u.stable));
        }

    -- with those of the least model rule i of the plain file is not met
    unfounded_by : outside_in N.plain (assigned a) ≡ false → some_unmet N (assigned a) ≡ false → length N.plain.constraints ≡ 0
        → (i : ℕ) → i < length P.rules → rule_met P (completed n θ (valued m)) i ≡ false → UnfoundedNested s a
    unfounded_by o e c i h u = record {
      means = N;
      plan = record { accepts = x; long = l };
      meets = record {
        ranges = record { inside = (assigned_within N.plain a (omega arith) (all_inside N.plain (assigned a) o)).inside };
        rules = all_met N (assigned a) e;
        constraints = λ j t. absurd (omega arith);
      };
      not_stable = λ st.
          let done = (same_stable (accepts_fine x)).as_checked θ θ (valued m) (record { same = λ v t. refl }) (search_least plan 9 m least) in
          let w = done.0 (subst (NestedStable N) (sym (own_values a more n l)) st) in
          never (is_true (rule_met P (completed n θ (valued m)) i) (w.meets.rules i h)) u;
    }

-- ---- the files

circle_accepted : NestedAccepts circle (nested circle 5)
unfolding reading.computes
circle_accepted = accepted_by circle 5 (lit≤ tt) refl (lit≤ tt) refl

above_accepted : NestedAccepts circle_above (nested circle_above 5)
unfolding reading.computes
above_accepted = accepted_by circle_above 5 (lit≤ tt) refl (lit≤ tt) refl

crosswise_accepted : NestedAccepts crosswise (nested crosswise 5)
unfolding reading.computes
crosswise_accepted = accepted_by crosswise 5 (lit≤ tt) refl (lit≤ tt) refl

-- ---- their plans

pub nested_plans : NestedPlans
unfolding reading.computes tree_gives
nested_plans = record {
  circle_stable = stable_by circle_accepted (lit≤ tt) _ (small 3 []) refl refl refl (pos 3 ∷ pos 3 ∷ pos 3 ∷ pos 3 ∷ []) refl refl refl refl;
  circle_unfounded = unfounded_by circle_accepted (lit≤ tt) _ (small 5 []) refl refl refl (pos 3 ∷ pos 3 ∷ pos 3 ∷ pos 3 ∷ []) refl refl refl refl 2 (lit< tt) refl;
  above_stable = stable_by above_accepted (lit≤ tt) _ (small 4 []) refl refl refl (pos 4 ∷ pos 4 ∷ pos 4 ∷ pos 4 ∷ []) refl refl refl refl;
  above_unfounded = unfounded_by above_accepted (lit≤ tt) _ (small 2 []) refl refl refl (pos 4 ∷ pos 4 ∷ pos 4 ∷ pos 4 ∷ []) refl refl refl refl 2 (lit< tt) refl;
  crosswise_stable = stable_by crosswise_accepted (lit≤ tt) _ (small 3 []) refl refl refl (pos 3 ∷ pos 3 ∷ pos 3 ∷ pos 3 ∷ []) refl refl refl refl;
  crosswise_higher = stable_by crosswise_accepted (lit≤ tt) _ (small 5 []) refl refl refl (pos 5 ∷ pos 5 ∷ pos 3 ∷ pos 5 ∷ []) refl refl refl refl;
}
