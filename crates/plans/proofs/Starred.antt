-- Document 01's starred sample plans: each is computed, and laws say what the computed tests mean.
use Prim.Native.Nat.{ℕ, ◌*◌, ◌<◌, ◌≤◌}
use mathlib.Core.Path.{◌≡◌, refl, subst}
use mathlib.Core.List.{List, [], ◌∷◌}
use mathlib.Core.Bool.{Bool, false, not}
use native.Mathlib.Omega.{arith}
use borrow.Author.Tests.{not-false}
use lib.Dec.{T, lit<, lit≤, ltb, ltb→lt, nltb→le}
use lib.IntN.{ℤ, pos, neg_ℤ}
use lib.ListN.{length}
use Rattle.format.specs.Limits.{max_file}
use Rattle.format.specs.Numbers.{beyond}
use Rattle.walks.specs.Walk.{closed}
use Rattle.program.specs.Tables.{any_below}
use Rattle.program.specs.Fields.{place, tag_before}
use Rattle.program.specs.Program.{Program, program, divisor_terms, terms_of, variable_in, rule_in}
use Rattle.program.specs.Refusals.{cut_short, unknown_tag, tag_below, one_too_many, not_terms, wrong_length, literal_position, wrong_op, must_be_zero, wrong_term}
use Rattle.program.specs.Refusals.{unknown_form, wrong_divisor, wrong_constraint, wrong_form, outside_term, outside_divisor, outside_range, undeclared_term, wrong_head, undeclared}
use Rattle.program.specs.Refusals.{wrong_count_of, wrong_divisors, wrong_count, repeated_term, variable_twice, negative_term, negative_product, item_refusal, value_refusal}
use Rattle.program.specs.Refusals.{field_refusal}
use Rattle.program.specs.Idle.{furthest, nearest, demanding, most_at, most, is_idle}
use Rattle.program.specs.Components.{draws, edge}
use Rattle.program.specs.Reading.{Accepts}
use Rattle.program.proofs.Conditions.{never, none_below}
use Rattle.program.proofs.Decide.{share_test, offends_at_lem, offends_test, offends_in_lem, valid_by, unfit, whole_by}
use Rattle.program.proofs.Promises.{accepts_promises}
use Rattle.meaning.specs.Founded.{Model, Least}
use Rattle.meaning.specs.Reduct.{reduct, system}
use Rattle.meaning.specs.Stable.{assigned, RuleMet, Meets}
use Rattle.meaning.specs.LeastCall.{AllInside}
use Rattle.meaning.specs.Search.{found, search}
use Rattle.plans.specs.Starred.{Plan, StablePlan, UnfoundedPlan, UnmetPlan, small, printed, example2, example1, example4, contrary, StarredPlans}
use Rattle.meaning.proofs.InRanges.{past_zero, assigned_within}
use Rattle.meaning.proofs.Search as searching
use Rattle.meaning.proofs.Search.{Right, search_right}
use Rattle.program.specs.Readings.{Valuation, gives, valued}
use Rattle.program.specs.Variables.{in_range, not_past, no_more}
use Rattle.program.proofs.Tests.{cases, is_true, is_test}
use Rattle.program.proofs.Variables.{past_refl, past_trans}
use Rattle.program.specs.declared.Variable.{Variable}

-- ---- the tests

-- some variable is outside its range
unfoldable pub outside_in : Program → Valuation → Bool
outside_in P θ = any_below (length P.variables) (λ v. not (in_range (variable_in P.variables v) (θ v)))

abbrev pub rule_met : Program → Valuation → ℕ → Bool
rule_met P θ i = no_more (variable_in P.variables (rule_in P.rules i).head) (gives P.variables (rule_in P.rules i) θ θ) (θ (rule_in P.rules i).head)

-- one of the first n rules is not met
unfoldable pub unmet_in : Program → Valuation → ℕ → Bool
unmet_in P θ n = any_below n (λ i. not (rule_met P θ i))

-- one of the variables is past m
unfoldable pub above_in : Program → Valuation → Valuation → Bool
above_in P θ m = any_below (length P.variables) (λ v. not (not_past (variable_in P.variables v) (θ v) (m v)))

-- unfolding these unfolds the reading of a file
fields_compute : Unit {0}
unfolding beyond any_below place tag_before program divisor_terms terms_of cut_short unknown_tag tag_below one_too_many not_terms wrong_length item_refusal value_refusal field_refusal
fields_compute = tt

items_compute : Unit {0}
unfolding literal_position wrong_op must_be_zero wrong_term unknown_form wrong_constraint wrong_form outside_term outside_range undeclared_term wrong_head undeclared wrong_count_of
items_compute = tt

bodies_compute : Unit {0}
unfolding wrong_divisor outside_divisor wrong_divisors wrong_count repeated_term variable_twice negative_term negative_product
bodies_compute = tt

valid_compute : Unit {0}
unfolding furthest nearest demanding most_at most is_idle draws edge closed share_test offends_at_lem offends_test unfit
valid_compute = tt

-- and this also the tests and the search
unfoldable pub computes : Unit {0}
unfolding fields_compute items_compute bodies_compute valid_compute searching.computes outside_in unmet_in above_in
computes = tt

-- ---- what they mean

pub read : (s : List ℕ) (k : ℕ) → length s ≤ max_file → unfit s k ≡ false → length s ≤ place s k
    → offends_in_lem (program s k) (length (program s k).rules) ≡ false → Accepts s (program s k)
read s k short fit ended none =
    let w = whole_by s k short fit ended in
    record { fields = k; whole = w; means = refl; valid = valid_by w.passed none }

pub all_inside : (P : Program) (θ : Valuation) → outside_in P θ ≡ false → AllInside P θ
unfolding outside_in
all_inside P θ e v h = not-false (in_range (variable_in P.variables v) (θ v)) (none_below (length P.variables) _ e v h)

pub rules_met : (P : Program) (θ : Valuation) (n : ℕ) → unmet_in P θ n ≡ false → (i : ℕ) → i < n → RuleMet P θ i
unfolding unmet_in
rules_met P θ n e i h = is_test (not-false (rule_met P θ i) (none_below n _ e i h))

-- ---- plans

module _ {s a : List ℕ} {P : Program} (p : Plan s a P) where
  -- a search that ends in m has found the least model
  pub search_least : (k : ℕ) (m : List ℤ) → search k P (assigned a) ≡ found m → Least (system P) (assigned a) (valued m)
  search_least k m e = subst (λ o. Right P (reduct P) (assigned a) o) e (search_right (accepts_promises p.accepts) p.ranges k)

  -- an assignment that meets every rule and is nowhere above the least model is the least model
  self_least : {m : Valuation} → unmet_in P (assigned a) (length P.rules) ≡ false → Least (system P) (assigned a) m
      → above_in P (assigned a) m ≡ false → Least (system P) (assigned a) (assigned a)
  unfolding above_in
  self_least {m} r l e = record {
    model = record { standard = λ v n. refl; within = p.ranges; rules = rules_met P (assigned a) (length P.rules) r };
    floor = record { under = λ m' k v. record { le = under m' k v } };
  }
    where
      under : (m' : Valuation) → Model (system P) (assigned a) m' → (v : ℕ) → T (not_past (variable_in P.variables v) (assigned a v) (m' v))
      under m' k v = cases (ltb v (length P.variables)) (λ b. T (not_past x (assigned a v) (m' v)))
          (λ t. let h = is_test (not-false (not_past x (assigned a v) (m v)) (none_below (length P.variables) _ e v (ltb→lt v (length P.variables) t))) in
          past_trans x (assigned a v) (m v) (m' v) h (l.floor.under m' k v).le)
          (λ n. let h = nltb→le v (length P.variables) n in
          rw (past_zero P p.ranges v h, past_zero P k.within v h) (past_refl x (pos 0)))
        where
          x : Variable
          x = variable_in P.variables v

  all_met : unmet_in P (assigned a) (length P.rules) ≡ false → length P.constraints ≡ 0 → Meets P (assigned a)
  all_met r c = record {
    ranges = p.ranges;
    rules = rules_met P (assigned a) (length P.rules) r;
    constraints = λ i h. let z : ⊥ = omega arith in absurd z;
  }

  pub stable_plan : (k : ℕ) (m : List ℤ) → search k P (assigned a) ≡ found m → above_in P (assigned a) (valued m) ≡ false
      → unmet_in P (assigned a) (length P.rules) ≡ false → length P.constraints ≡ 0 → StablePlan s a
  stable_plan k m e f r c = record {
    means = P;
    plan = p;
    stable = record { meets = all_met r c; least = self_least r (search_least k m e) f };
  }

  -- the least model leaves v short of the assignment
  pub unfounded_plan : (k : ℕ) (m : List ℤ) → search k P (assigned a) ≡ found m → unmet_in P (assigned a) (length P.rules) ≡ false
      → length P.constraints ≡ 0 → (v : ℕ) → not_past (variable_in P.variables v) (assigned a v) (valued m v) ≡ false → UnfoundedPlan s a m
  unfounded_plan k m e r c v f = record {
    means = P;
    plan = p;
    meets = all_met r c;
    least = search_least k m e;
    not_stable = λ st. never (is_true (not_past (variable_in P.variables v) (assigned a v) (valued m v)) (st.least.floor.under (valued m) (search_least k m e).model v).le) f;
  }

  pub unmet_plan : (i : ℕ) → i < length P.rules → rule_met P (assigned a) i ≡ false → unmet_in P (assigned a) i ≡ false → UnmetPlan s a i
  unmet_plan i h e f = record {
    means = P;
    plan = p;
    among = h;
    unmet = λ t. never (is_true (rule_met P (assigned a) i) t) e;
    first = rules_met P (assigned a) i f;
  }

pub plan_of : {s : List ℕ} {P : Program} (a : List ℕ) → Accepts s P → length a ≡ 2 * length P.variables → outside_in P (assigned a) ≡ false → Plan s a P
plan_of {s} {P} a r l o = record { accepts = r; long = l; ranges = assigned_within P a (omega arith) (all_inside P (assigned a) o) }

-- ---- the samples

empty_stable : StablePlan [] []
unfolding computes
empty_stable = stable_plan (plan_of [] (read [] 0 (lit≤ tt) refl (lit≤ tt) refl) refl refl) 1 [] refl refl refl refl

pub printed_read : Accepts printed (program printed 6)
unfolding computes
printed_read = read printed 6 (lit≤ tt) refl (lit≤ tt) refl

printed_stable : StablePlan printed (small 1 (small 1 (small 1 [])))
unfolding computes
printed_stable = stable_plan (plan_of _ printed_read refl refl) 9 (pos 1 ∷ pos 1 ∷ pos 1 ∷ []) refl refl refl refl

printed_least : UnfoundedPlan printed (small 0 (small 1 (small 1 []))) (pos 0 ∷ pos 0 ∷ pos 0 ∷ [])
unfolding computes
printed_least = unfounded_plan (plan_of _ printed_read refl refl) 9 _ refl refl refl 1 refl

pub example2_read : Accepts example2 (program example2 5)
unfolding computes
example2_read = read example2 5 (lit≤ tt) refl (lit≤ tt) refl

example2_stable : StablePlan example2 (0xFF ∷ 0xF8 ∷ 0xFF ∷ 0xF6 ∷ small 5 [])
unfolding computes
example2_stable = stable_plan (plan_of _ example2_read refl refl) 9 (neg_ℤ (pos 8) ∷ neg_ℤ (pos 10) ∷ pos 5 ∷ []) refl refl refl refl

example2_least : UnfoundedPlan example2 (0xFF ∷ 0xF9 ∷ 0xFF ∷ 0xF6 ∷ small 5 []) (neg_ℤ (pos 8) ∷ neg_ℤ (pos 10) ∷ pos 5 ∷ [])
unfolding computes
example2_least = unfounded_plan (plan_of _ example2_read refl refl) 9 _ refl refl refl 0 refl

pub example1_read : Accepts example1 (program example1 8)
unfolding computes
example1_read = read example1 8 (lit≤ tt) refl (lit≤ tt) refl

example1_stable : StablePlan example1 (small 17 (small 8 (small 9 (small 1 (small 0 [])))))
unfolding computes
example1_stable = stable_plan (plan_of _ example1_read refl refl) 9 (pos 17 ∷ pos 8 ∷ pos 9 ∷ pos 1 ∷ pos 0 ∷ []) refl refl refl refl

example1_least : UnfoundedPlan example1 (small 17 (small 8 (small 3 (small 1 (small 0 []))))) (pos 3 ∷ pos 0 ∷ pos 3 ∷ pos 0 ∷ pos 0 ∷ [])
unfolding computes
example1_least = unfounded_plan (plan_of _ example1_read refl refl) 9 _ refl refl refl 0 refl

pub example4_read : Accepts example4 (program example4 7)
unfolding computes
example4_read = read example4 7 (lit≤ tt) refl (lit≤ tt) refl

example4_stable : StablePlan example4 (small 3 (small 4 (small 5 [])))
unfolding computes
example4_stable = stable_plan (plan_of _ example4_read refl refl) 9 (pos 3 ∷ pos 4 ∷ pos 5 ∷ []) refl refl refl refl

example4_least : UnfoundedPlan example4 (small 4 (small 5 (small 6 []))) (pos 3 ∷ pos 4 ∷ pos 5 ∷ [])
unfolding computes
example4_least = unfounded_plan (plan_of _ example4_read refl refl) 9 _ refl refl refl 0 refl

pub contrary_read : Accepts contrary (program contrary 2)
unfolding computes
contrary_read = read contrary 2 (lit≤ tt) refl (lit≤ tt) refl

contrary_unmet : UnmetPlan contrary (small 0 []) 0
unfolding computes
contrary_unmet = unmet_plan (plan_of _ contrary_read refl refl) 0 (lit< tt) refl refl

contrary_least : UnfoundedPlan contrary (small 1 []) (pos 0 ∷ [])
unfolding computes
contrary_least = unfounded_plan (plan_of _ contrary_read refl refl) 9 _ refl refl refl 0 refl

-- the joint theorem
pub starred_plans : StarredPlans
starred_plans = record {
  empty_stable = empty_stable;
  printed_stable = printed_stable;
  printed_least = printed_least;
  example2_stable = example2_stable;
  example2_least = example2_least;
  example1_stable = example1_stable;
  example1_least = example1_least;
  example4_stable = example4_stable;
  example4_least = example4_least;
  contrary_unmet = contrary_unmet;
  contrary_least = contrary_least;
}
