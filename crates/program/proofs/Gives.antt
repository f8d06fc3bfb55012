-- What a rule gives: its amount form by form, and that only the readings of its positions count.
use Prim.Native.Nat.{ℕ, zero, suc, ◌-◌, ◌<◌, ◌≤◌}
use mathlib.Core.Path.{◌≡◌, refl, sym, ap, ap₂, ◌∙◌}
use mathlib.Core.List.{List}
use mathlib.Core.Bool.{Bool, true, false, ◌&&◌}
use native.Mathlib.Omega.{arith}
use lib.IntN.{ℤ, pos, nat_abs, ◌+ℤ◌, ◌*ℤ◌}
use lib.ListN.{length}
use Rattle.program.specs.Program.{Rule, Constraint, term_form, divisor_of, term_in}
use Rattle.program.specs.Refusals.{body_form}
use Rattle.program.specs.Evaluate.{sum_below, larger, smaller, pick_to, largest_to, smallest_to, holds, all_hold, only_if, over_up, amount_of, amount, evaluate}
use Rattle.program.specs.Evaluable.{fewest, has_literals, EvaluableAs, Evaluable, Satisfiable}
use Rattle.program.proofs.Conditions.{never}
use Rattle.program.proofs.Promises.{RulePromise, CountPromise, ConstraintPromise, plain_position, divisor_least, divisor_most}
use Rattle.program.specs.declared.Variable.{Variable}
use Rattle.program.specs.declared.Term.{Term}

-- what holds of each form holds of a known form
pub seven : (P : ℕ → Type 0) → P 1 → P 2 → P 3 → P 4 → P 5 → P 6 → P 7 → (n : ℕ) → 1 ≤ n → n ≤ 7 → P n
seven P a b c d e f g zero h k = absurd (omega arith)
seven P a b c d e f g (suc zero) h k = a
seven P a b c d e f g (suc (suc zero)) h k = b
seven P a b c d e f g (suc (suc (suc zero))) h k = c
seven P a b c d e f g (suc (suc (suc (suc zero)))) h k = d
seven P a b c d e f g (suc (suc (suc (suc (suc zero))))) h k = e
seven P a b c d e f g (suc (suc (suc (suc (suc (suc zero)))))) h k = f
seven P a b c d e f g (suc (suc (suc (suc (suc (suc (suc zero))))))) h k = g
seven P a b c d e f g (suc (suc (suc (suc (suc (suc (suc (suc n)))))))) h k = absurd (omega arith)

-- ---- the amount of each form

module _ {form : ℕ} (c d : ℤ) (ts : List Term) (at : ℕ → ℤ) where
  pub amount_sum : form ≡ 1 → amount_of form c d ts at ≡ over_up d (c +ℤ sum_below (λ i. (term_in ts i).number *ℤ at i) (length ts))
  unfolding amount_of
  amount_sum h = rw h

  pub amount_largest : form ≡ 2 → amount_of form c d ts at ≡ c +ℤ largest_to at (length ts - 1)
  unfolding amount_of
  amount_largest h = rw h

  pub amount_smallest : form ≡ 3 → amount_of form c d ts at ≡ c +ℤ smallest_to at (length ts - 1)
  unfolding amount_of
  amount_smallest h = rw h

  pub amount_product : form ≡ 4 → amount_of form c d ts at ≡ c +ℤ (at 0 *ℤ at 1)
  unfolding amount_of
  amount_product h = rw h

  pub amount_size : form ≡ 5 → amount_of form c d ts at ≡ c +ℤ pos (nat_abs (at 0))
  unfolding amount_of
  amount_size h = rw h

  pub amount_literals : form ≡ 6 → amount_of form c d ts at ≡ c
  unfolding amount_of
  amount_literals h = rw h

  pub amount_carried : form ≡ 7 → amount_of form c d ts at ≡ c +ℤ at 0
  unfolding amount_of
  amount_carried h = rw h

module _ (r : Rule) (at : ℕ → ℤ) where
  -- the amount is given where every literal holds
  pub given_is : {b : Bool} {a : ℤ} → b ≡ all_hold r.terms at (length r.terms) → a ≡ amount r at → only_if b a ≡ evaluate r at
  unfolding evaluate
  given_is p q = rw (p, q)

-- plain terms ask nothing
pub plain_hold : (ts : List Term) (at : ℕ → ℤ) (n : ℕ) → ((i : ℕ) → i < n → (term_in ts i).op ≡ 0) → true ≡ all_hold ts at n
unfolding all_hold
plain_hold ts at zero p = refl
plain_hold ts at (suc n) p = rw (← plain_hold ts at n (λ i l. p i (omega arith)), p n (omega arith))

-- ---- only the readings of a rule's positions count

module _ (f g : ℕ → ℤ) where
  pub sum_same : (n : ℕ) → ((i : ℕ) → i < n → f i ≡ g i) → sum_below f n ≡ sum_below g n
  unfolding sum_below
  sum_same zero h = refl
  sum_same (suc n) h = ap₂ ◌+ℤ◌ (sum_same n (λ i l. h i (omega arith))) (h n (omega arith))

  pick_same : (pick : ℤ → ℤ → ℤ) (n : ℕ) → ((i : ℕ) → i ≤ n → f i ≡ g i) → pick_to pick f n ≡ pick_to pick g n
  unfolding pick_to
  pick_same pick zero h = h 0 (omega arith)
  pick_same pick (suc n) h = ap₂ pick (pick_same pick n (λ i l. h i (omega arith))) (h (suc n) (omega arith))

  hold_same : (ts : List Term) (n : ℕ) → ((i : ℕ) → i < n → f i ≡ g i) → all_hold ts f n ≡ all_hold ts g n
  unfolding all_hold
  hold_same ts zero h = refl
  hold_same ts (suc n) h = ap₂ ◌&&◌ (hold_same ts n (λ i l. h i (omega arith))) (ap (holds (term_in ts n)) (h n (omega arith)))

-- a rule has the terms that its form reads
pub enough_of : {form : ℕ} {c d : ℤ} {ts : List Term} → EvaluableAs form c d ts → (k : ℕ) → form ≡ k → fewest k ≤ length ts
enough_of e k h = rw h at e.enough

amount_same : (r : Rule) (f g : ℕ → ℤ) → ((i : ℕ) → i < length r.terms → f i ≡ g i) → Evaluable r → amount r f ≡ amount r g
amount_same r f g h e =
    seven (λ k. term_form r.form ≡ k → amount r f ≡ amount r g)
    (λ q. amount_sum c d ts f q ∙ ap (λ (z : ℤ). over_up d (total z)) (sum_same (weighted f) (weighted g) n (λ i l. ap (λ (z : ℤ). (term_in ts i).number *ℤ z) (h i l)))
    ∙ sym (amount_sum c d ts g q))
    (λ q. amount_largest c d ts f q ∙ ap total (pick_same f g larger (n - 1) (first (enough_of e 2 q))) ∙ sym (amount_largest c d ts g q))
    (λ q. amount_smallest c d ts f q ∙ ap total (pick_same f g smaller (n - 1) (first (enough_of e 3 q))) ∙ sym (amount_smallest c d ts g q))
    (λ q. amount_product c d ts f q ∙ ap total (ap₂ ◌*ℤ◌ (h 0 (omega (arith, enough_of e 4 q))) (h 1 (omega (arith, enough_of e 4 q)))) ∙ sym (amount_product c d ts g q))
    (λ q. amount_size c d ts f q ∙ ap (λ (z : ℤ). total (pos (nat_abs z))) (h 0 (omega (arith, enough_of e 5 q))) ∙ sym (amount_size c d ts g q))
    (λ q. amount_literals c d ts f q ∙ sym (amount_literals c d ts g q))
    (λ q. amount_carried c d ts f q ∙ ap total (h 0 (omega (arith, enough_of e 7 q))) ∙ sym (amount_carried c d ts g q))
    (term_form r.form)
    e.from
    e.to
    refl
  where
    c : ℤ
    c = r.c

    d : ℤ
    d = divisor_of r

    ts : List Term
    ts = r.terms

    n : ℕ
    n = length ts

    weighted : (ℕ → ℤ) → ℕ → ℤ
    weighted at i = (term_in ts i).number *ℤ at i

    total : ℤ → ℤ
    total z = c +ℤ z

    first : 1 ≤ n → (i : ℕ) → i ≤ n - 1 → f i ≡ g i
    first l i m = h i (omega arith)

-- what a rule gives depends on the readings of its positions alone
pub evaluate_same : (r : Rule) (at at' : ℕ → ℤ) → ((i : ℕ) → i < length r.terms → at i ≡ at' i) → Evaluable r → evaluate r at ≡ evaluate r at'
unfolding evaluate
evaluate_same r f g h e = ap₂ only_if (hold_same f g r.terms (length r.terms) h) (amount_same r f g h e)

-- ---- a rule that acceptance speaks for can be evaluated

no_literals : (form i : ℕ) → 1 ≤ form → form ≤ 7 → has_literals form ≡ false → form ≤ 5
no_literals form i h k e =
    seven (λ n. has_literals n ≡ false → n ≤ 5) (λ q. omega arith) (λ q. omega arith) (λ q. omega arith) (λ q. omega arith) (λ q. omega arith)
    (λ q. absurd (never refl q)) (λ q. absurd (never refl q)) form h k e

pub promised_evaluable : {vs : List Variable} {r : Rule} → RulePromise vs r → Evaluable r
promised_evaluable {vs} {r} p = record {
  from = p.form_least;
  to = p.form_most;
  near = p.c_small;
  divisor_least = divisor_least p;
  divisor_near = divisor_most p;
  weights = λ e i h. (p.body.terms i h).coefficient_small e;
  plain = λ e i h. (p.body.terms i h).plain_op (plain_position (term_form r.form) i (no_literals (term_form r.form) i p.form_least p.form_most e));
  few = p.body.count.most;
  enough = enough;
}
  where
    count : CountPromise (term_form r.form) (length r.terms)
    count = p.body.count

    enough : fewest (term_form r.form) ≤ length r.terms
    enough =
        seven (λ k. term_form r.form ≡ k → fewest k ≤ length r.terms) (λ e. omega arith) count.max_least count.min_least
        (λ e. omega (arith, count.product_two e)) (λ e. omega (arith, count.size_one e)) (λ e. omega arith) (λ e. omega (arith, count.carry_least e))
        (term_form r.form) p.form_least p.form_most refl

-- and a constraint too
pub promised_satisfiable : {vs : List Variable} {k : Constraint} → ConstraintPromise vs k → Satisfiable k
promised_satisfiable {vs} {k} p = record {
  from = p.form_least;
  to = p.form_most;
  near = p.c_small;
  weights = λ e i h. (p.body.terms i h).coefficient_small (ap body_form e);
  few = p.body.count.most;
}
