-- What a rule gives and a constraint asks does not depend on the order of its terms.
use Prim.Native.Nat.{ℕ, zero, suc, ◌-◌, ◌<◌, ◌≤◌}
use mathlib.Core.Path.{◌≡◌, refl, sym, ap, ap₂, subst, ◌∙◌}
use mathlib.Core.Logic.{◌≢◌}
use mathlib.Core.List.{List}
use mathlib.Core.Bool.{Bool, true, false, not, cond, ◌||◌, ◌&&◌}
use native.Mathlib.Omega.{arith}
use lib.IntN.{ℤ, pos, nat_abs, ◌+ℤ◌, ◌*ℤ◌, *ℤ_comm}
use lib.Signed.{◌≤ℤ◌, lt_z, ≤ℤ_refl}
use lib.ListN.{length}
use borrow.Author.Tests.{eqb-true, not-false}
use Rattle.format.proofs.Int.{int}
use Rattle.program.specs.Tables.{any_below}
use Rattle.program.specs.Program.{Rule, Constraint, rule, constraint, term_form, divisor_of, term_in}
use Rattle.program.specs.Refusals.{body_form, literal_position, item_refusal}
use Rattle.program.specs.Evaluate.{larger, smaller, pick_to, holds, all_hold, only_if, over_up, amount_of, evaluate, satisfied}
use Rattle.program.specs.declared.Variable.{Variable}
use Rattle.program.specs.declared.Term.{Term}
use Rattle.program.proofs.Conditions.{last_or, some_below, below_some}
use Rattle.program.proofs.Tests.{cases}
use Rattle.program.proofs.Promises.{CountPromise, RulePromise, ConstraintPromise, carried_position, rule_promised, constraint_promised}
use Rattle.program.proofs.Gives.{seven, amount_sum, amount_largest, amount_smallest, amount_product, amount_size, amount_literals, amount_carried}
use Rattle.normal.specs.Ordered.{OrderedRule, OrderedConstraint}
use Rattle.normal.proofs.Rearranged.{Rearranged, ordered_rearranged}

-- ---- the largest and the smallest: the least bound, in an order, of the values

record Bounds (le : ℤ → ℤ → Type 0) (pick : ℤ → ℤ → ℤ) : Type 0 where
  least : {a b c : ℤ} → le a c → le b c → le (pick a b) c
  first : (a b : ℤ) → le a (pick a b)
  second : (a b : ℤ) → le b (pick a b)
  same : (a : ℤ) → le a a
  onward : {a b c : ℤ} → le a b → le b c → le a c
  equal : {a b : ℤ} → le a b → le b a → a ≡ b

larger_bounds : Bounds ◌≤ℤ◌ larger
larger_bounds = record {
  least = λ {a} {b} {c} h k. cases (lt_z a b) (λ t. cond t b a ≤ℤ c) (λ t. k) (λ t. h);
  first = λ a b. cases (lt_z a b) (λ t. a ≤ℤ cond t b a) (λ t. omega int) (λ t. omega int);
  second = λ a b. cases (lt_z a b) (λ t. b ≤ℤ cond t b a) (λ t. omega int) (λ t. omega int);
  same = ≤ℤ_refl;
  onward = λ h k. omega int;
  equal = λ h k. omega int;
}

smaller_bounds : Bounds (λ a b. b ≤ℤ a) smaller
smaller_bounds = record {
  least = λ {a} {b} {c} h k. cases (lt_z b a) (λ t. c ≤ℤ cond t b a) (λ t. k) (λ t. h);
  first = λ a b. cases (lt_z b a) (λ t. cond t b a ≤ℤ a) (λ t. omega int) (λ t. omega int);
  second = λ a b. cases (lt_z b a) (λ t. cond t b a ≤ℤ b) (λ t. omega int) (λ t. omega int);
  same = ≤ℤ_refl;
  onward = λ h k. omega int;
  equal = λ h k. omega int;
}

module _ {le : ℤ → ℤ → Type 0} {pick : ℤ → ℤ → ℤ} (p : Bounds le pick) where
  pick_bounds : (f : ℕ → ℤ) (n i : ℕ) → i ≤ n → le (f i) (pick_to pick f n)
  unfolding pick_to
  pick_bounds f zero i h = let e : i ≡ 0 = omega arith in rw e (p.same (f 0))
  pick_bounds f (suc n) i h =
      last_or (λ j. le (f j) (pick (pick_to pick f n) (f (suc n)))) (suc n) i (omega arith)
      (λ l. p.onward (pick_bounds f n i (omega arith)) (p.first _ _)) (p.second _ _)

  pick_least : (f : ℕ → ℤ) (n : ℕ) {b : ℤ} → ((i : ℕ) → i ≤ n → le (f i) b) → le (pick_to pick f n) b
  unfolding pick_to
  pick_least f zero h = h 0 (omega arith)
  pick_least f (suc n) h = p.least (pick_least f n (λ i l. h i (omega arith))) (h (suc n) (omega arith))

  -- each value of the first stands among those of the second
  pick_under : (f g : ℕ → ℤ) (n m : ℕ) → ((i : ℕ) → i ≤ n → (j : ℕ) × (j ≤ m) × (g j ≡ f i)) → le (pick_to pick f n) (pick_to pick g m)
  pick_under f g n m h = pick_least f n (λ i l. let s = h i l in subst (λ z. le z (pick_to pick g m)) s.2 (pick_bounds g m s.0 s.1))

-- ---- literals: all hold where none fails

none_fails : (ts : List Term) (at : ℕ → ℤ) (n : ℕ) → all_hold ts at n ≡ not (any_below n (λ i. not (holds (term_in ts i) (at i))))
unfolding all_hold any_below
none_fails ts at zero = refl
none_fails ts at (suc n) = rw (none_fails ts at n) (go (any_below n _) (holds (term_in ts n) (at n)))
  where
    go : (a b : Bool) → (not a && b) ≡ not (a || not b)
    go true b = refl
    go false true = refl
    go false false = refl

-- ---- terms in another order

-- of form 7 the first position alone is plain
carried_first : (form i : ℕ) → form ≡ 7 → literal_position form i ≡ false → i ≡ 0
unfolding literal_position
carried_first form i q e = eqb-true i 0 (not-false _ (rw q at e))

either : (a b : Bool) → (a ≡ true → b ≡ true) → (b ≡ true → a ≡ true) → a ≡ b
either true b f g = sym (f refl)
either false true f g = g refl
either false false f g = refl

module _ (form : ℕ) (ts us : List Term) (m : Rearranged form ts us) where
  -- some term has a property, which may depend on the kind of its position
  pub some_same : (p : Bool → Term → Bool)
      → any_below (length us) (λ i. p (literal_position form i) (term_in us i)) ≡ any_below (length ts) (λ i. p (literal_position form i) (term_in ts i))
  some_same p = either _ _
      (λ e. let x = some_below (length us) _ e in let s = m.back x.0 x.1 in below_some (length ts) _ s.at s.inside (ap₂ p s.alike s.is ∙ x.2))
      (λ e. let x = some_below (length ts) _ e in let s = m.there x.0 x.1 in below_some (length us) _ s.at s.inside (ap₂ p s.alike s.is ∙ x.2))

  module _ (g : Term → ℤ) where
    hold_same : all_hold us (λ i. g (term_in us i)) (length us) ≡ all_hold ts (λ i. g (term_in ts i)) (length ts)
    hold_same = none_fails us _ (length us) ∙ ap not (some_same (λ b t. not (holds t (g t)))) ∙ sym (none_fails ts _ (length ts))

    extreme_same : {le : ℤ → ℤ → Type 0} {pick : ℤ → ℤ → ℤ} → Bounds le pick → 1 ≤ length ts
        → pick_to pick (λ i. g (term_in us i)) (length us - 1) ≡ pick_to pick (λ i. g (term_in ts i)) (length ts - 1)
    extreme_same b h = b.equal
        (pick_under b (λ i. g (term_in us i)) (λ i. g (term_in ts i)) (length us - 1) (length ts - 1)
        (λ i l. let s = m.back i (omega (arith, m.sizes)) in (s.at, omega (arith, s.inside), ap g s.is)))
        (pick_under b (λ i. g (term_in ts i)) (λ i. g (term_in us i)) (length ts - 1) (length us - 1)
        (λ i l. let s = m.there i (omega arith) in (s.at, omega (arith, s.inside), ap g s.is)))

    product_same : length ts ≡ 2 → g (term_in us 0) *ℤ g (term_in us 1) ≡ g (term_in ts 0) *ℤ g (term_in ts 1)
    product_same h =
        let a = m.back 0 (omega (arith, m.sizes)) in
        let b = m.back 1 (omega (arith, m.sizes)) in
        let apart : a.at ≢ b.at =
        λ e. m.once 1 0 (omega (arith, m.sizes)) (omega arith) (ap (λ (t : Term). t.variable) (sym a.is ∙ ap (λ (i : ℕ). term_in ts i) e ∙ b.is)) in
        rw (← a.is, ← b.is) (go a.at b.at (omega (arith, a.inside)) (omega (arith, b.inside)) apart)
      where
        f : ℕ → ℤ
        f i = g (term_in ts i)

        go : (i j : ℕ) → i < 2 → j < 2 → i ≢ j → f i *ℤ f j ≡ f 0 *ℤ f 1
        go zero zero k l n = absurd (n refl)
        go zero (suc zero) k l n = refl
        go zero (suc (suc j)) k l n = let f : ⊥ = omega arith in absurd f
        go (suc zero) zero k l n = *ℤ_comm (f 1) (f 0)
        go (suc zero) (suc zero) k l n = absurd (n refl)
        go (suc zero) (suc (suc j)) k l n = let f : ⊥ = omega arith in absurd f
        go (suc (suc i)) j k l n = let f : ⊥ = omega arith in absurd f

  -- a term that stands first in both
  first_same : ((i : ℕ) → i < length us → literal_position form i ≡ literal_position form 0 → i ≡ 0) → 1 ≤ length ts → term_in us 0 ≡ term_in ts 0
  first_same f h = let s = m.there 0 h in rw (f s.at s.inside s.alike) at s.is

  -- a body of one term
  one_same : length ts ≡ 1 → term_in us 0 ≡ term_in ts 0
  one_same h = first_same (λ i l e. omega (arith, m.sizes)) (omega arith)

  -- the carried variable
  carried_same : form ≡ 7 → 1 ≤ length ts → term_in us 0 ≡ term_in ts 0
  carried_same q = first_same (λ i l e. carried_first form i q (e ∙ carried_position form 0 q refl))

  module _ (g : Term → ℤ) where
    amount_same : CountPromise form (length ts) → 1 ≤ form → form ≤ 7 → (c d : ℤ)
        → amount_of form c d us (λ i. g (term_in us i)) ≡ amount_of form c d ts (λ i. g (term_in ts i))
    amount_same n h k c d =
        seven (λ f. form ≡ f → amount_of form c d us in_us ≡ amount_of form c d ts in_ts)
        (λ q. amount_sum c d us in_us q ∙ ap (λ (z : ℤ). over_up d (c +ℤ z)) (m.sums (λ t. t.number *ℤ g t)) ∙ sym (amount_sum c d ts in_ts q))
        (λ q. amount_largest c d us in_us q ∙ ap (λ (z : ℤ). c +ℤ z) (extreme_same g larger_bounds (n.max_least q)) ∙ sym (amount_largest c d ts in_ts q))
        (λ q. amount_smallest c d us in_us q ∙ ap (λ (z : ℤ). c +ℤ z) (extreme_same g smaller_bounds (n.min_least q)) ∙ sym (amount_smallest c d ts in_ts q))
        (λ q. amount_product c d us in_us q ∙ ap (λ (z : ℤ). c +ℤ z) (product_same g (n.product_two q)) ∙ sym (amount_product c d ts in_ts q))
        (λ q. amount_size c d us in_us q ∙ ap (λ (t : Term). c +ℤ pos (nat_abs (g t))) (one_same (n.size_one q)) ∙ sym (amount_size c d ts in_ts q))
        (λ q. amount_literals c d us in_us q ∙ sym (amount_literals c d ts in_ts q))
        (λ q. amount_carried c d us in_us q ∙ ap (λ (t : Term). c +ℤ g t) (carried_same q (omega (arith, n.carry_least q))) ∙ sym (amount_carried c d ts in_ts q))
        form
        h
        k
        refl
      where
        in_ts : ℕ → ℤ
        in_ts i = g (term_in ts i)

        in_us : ℕ → ℤ
        in_us i = g (term_in us i)

-- ---- rules and constraints

pub rule_rearranged : {vs : List Variable} {r q : Rule} → RulePromise vs r → OrderedRule r q → Rearranged (term_form r.form) r.terms q.terms
rule_rearranged {r = r} {q} p o = ordered_rearranged (term_form r.form) r.terms q.terms (λ e. omega (arith, p.body.count.carry_least e)) p.body.distinct o.terms

pub constraint_rearranged : {vs : List Variable} {k l : Constraint} → ConstraintPromise vs k → OrderedConstraint k l
    → Rearranged (body_form k.form) k.terms l.terms
constraint_rearranged {k = k} {l} p o =
    ordered_rearranged (body_form k.form) k.terms l.terms (λ e. omega (arith, p.body.count.carry_least e)) p.body.distinct o.terms

pub ordered_evaluate : (vs : List Variable) (r q : Rule) → item_refusal vs (rule r) ≡ 0 → OrderedRule r q → (g : Term → ℤ)
    → evaluate q (λ i. g (term_in q.terms i)) ≡ evaluate r (λ i. g (term_in r.terms i))
unfolding evaluate
ordered_evaluate vs r q e o g =
    let p = rule_promised vs r e in
    let form = term_form r.form in
    let m = rule_rearranged p o in
    rw (o.form, o.c, o.divisor)
    (ap₂ only_if (hold_same form r.terms q.terms m g) (amount_same form r.terms q.terms m g p.body.count p.form_least p.form_most r.c (divisor_of r)))

pub ordered_satisfied : (vs : List Variable) (k l : Constraint) → item_refusal vs (constraint k) ≡ 0 → OrderedConstraint k l → (g : Term → ℤ)
    → satisfied l (λ i. g (term_in l.terms i)) ≡ satisfied k (λ i. g (term_in k.terms i))
unfolding satisfied
ordered_satisfied vs k l e o g =
    let m = constraint_rearranged (constraint_promised vs k e) o in
    rw (o.form, o.c, m.sums (λ t. t.number *ℤ g t), some_same (body_form k.form) k.terms l.terms m (λ b t. holds t (g t)))
