-- What a rule amounts to, by its form and the body that is handed on.
use Prim.Native.Nat.{ℕ, ◌+◌, ◌-◌, ◌*◌, ◌^◌, ◌<◌, ◌≤◌}
use mathlib.Core.Path.{◌≡◌, refl, sym, ap, ap₂, ◌∙◌}
use mathlib.Core.List.{List}
use mathlib.Core.Bool.{Bool, true, false, ◌||◌}
use native.Mathlib.Omega.{arith}
use lib.Dec.{eqb}
use borrow.Author.Tests.{eq-eqb, eqb-true, eqb-false}
use lib.IntN.{ℤ, pos, nat_abs, ◌+ℤ◌, ◌*ℤ◌}
use lib.Signed.{◌≤ℤ◌, ≤ℤ_refl}
use lib.ListN.{length}
use Rattle.format.specs.Limits.{max_number}
use Rattle.format.proofs.Int.{int, sum_is}
use Rattle.format.proofs.Ints.{abs_add}
use Rattle.program.specs.Program.{rule_of, rule_body, term_form, divisor_of, terms_of}
use Rattle.program.specs.Evaluate.{sum_below, pick_to, all_hold, over_up, amount_of, amount}
use Rattle.program.specs.Evaluable.{Small, Plain, has_literals, EvaluableAs, Evaluable}
use Rattle.program.specs.declared.Term.{Term}
use Rattle.program.proofs.Conditions.{never}
use Rattle.program.proofs.Quotients.{over_one}
use Rattle.program.proofs.Forms.{divided_by_one, read_as_sum, read_as_itself}
use Rattle.program.proofs.Gives.{enough_of, seven, plain_hold, amount_sum, amount_largest, amount_smallest, amount_product, amount_size, amount_literals, amount_carried}
use Rattle.parts.specs.Values.{HeaderIs, Handed}
use Rattle.parts.specs.declared.rules.RuleHeader.{RuleHeader}
use Rattle.bodies.specs.Readings.{extreme, weighted}
use Rattle.bodies.proofs.Loops.{product_small, largest_small, smallest_small}
use Rattle.evaluation.proofs.Gives.{no_literals}
use Rattle.sided.specs.Sides.{sided_reading}
use Rattle.sided.proofs.Sided.{other_form, sided_small, total_small}

plus_none : (z : ℤ) → z +ℤ pos 0 ≡ z
plus_none z = omega (int, sum_is z (pos 0))

module _ {form : ℕ} {c d : ℤ} {ts : List Term} (e : EvaluableAs form c d ts) where
  -- a form without literals
  pub plain_of : (k : ℕ) → form ≡ k → has_literals k ≡ false → Plain ts
  plain_of k h l = e.plain (ap has_literals h ∙ l)

  -- forms 2 and 3 have a term, and no literals
  pub picked_from : (eqb form 2 || eqb form 3) ≡ true → (1 ≤ length ts) × Plain ts
  picked_from t = go (eqb form 2) refl t
    where
      go : (z : Bool) → eqb form 2 ≡ z → (z || eqb form 3) ≡ true → (1 ≤ length ts) × Plain ts
      go true q u = (enough_of e 2 (eqb-true form 2 q), plain_of 2 (eqb-true form 2 q) refl)
      go false q u = (enough_of e 3 (eqb-true form 3 u), plain_of 3 (eqb-true form 3 u) refl)

  -- the same rule without a divisor
  pub whole : EvaluableAs form c (pos 1) ts
  whole = record {
    from = e.from;
    to = e.to;
    near = e.near;
    divisor_least = ≤ℤ_refl (pos 1);
    divisor_near = omega arith;
    weights = e.weights;
    plain = e.plain;
    few = e.few;
    enough = e.enough;
  }

  -- and without c
  pub bare : EvaluableAs form (pos 0) (pos 1) ts
  bare = record {
    from = e.from;
    to = e.to;
    near = omega arith;
    divisor_least = ≤ℤ_refl (pos 1);
    divisor_near = omega arith;
    weights = e.weights;
    plain = e.plain;
    few = e.few;
    enough = e.enough;
  }

-- the test of two forms fails at both
module _ (form k m : ℕ) (t : (eqb form k || eqb form m) ≡ false) where
  pub not_first : form ≡ k → ⊥
  not_first h = go (eqb form k) (eq-eqb form k h) t
    where
      go : (z : Bool) → z ≡ true → (z || eqb form m) ≡ false → ⊥
      go true q u = never refl u
      go false q u = never q refl

  pub not_second : form ≡ m → ⊥
  not_second h = go (eqb form k) t
    where
      go : (z : Bool) → (z || eqb form m) ≡ false → ⊥
      go true u = never refl u
      go false u = never (eq-eqb form m h) u

-- ---- what a body adds, where its form is not 1

-- r is what the body adds to any c
abbrev pub Adds : ℕ → List Term → (ℕ → ℤ) → ℤ → Type 0
Adds form ts at r = (nat_abs r ≤ max_number * max_number) × ((c : ℤ) → c +ℤ r ≡ amount_of form c (pos 1) ts at)

module _ (sides : List ℤ) (form : ℕ) (side : Bool) (ts : List Term) (h : Small sides) (n : form ≡ 1 → ⊥) where
  same : sided_reading sides 0 side ts ≡ sided_reading sides form side ts
  same = ap (λ (f : Bool → List Term → ℕ → ℤ). f side ts) (other_form sides form n)

  small : (i : ℕ) → nat_abs (sided_reading sides form side ts i) ≤ max_number
  small = sided_small sides form side ts h

  pub adds_extreme : {r : ℤ} → (eqb form 2 || eqb form 3) ≡ true → r ≡ pick_to (extreme (eqb form 2)) (sided_reading sides 0 side ts) (length ts - 1)
      → Adds form ts (sided_reading sides form side ts) r
  adds_extreme {r} t q = go (eqb form 2) refl t (q ∙ ap (λ (f : ℕ → ℤ). pick_to (extreme (eqb form 2)) f (length ts - 1)) same)
    where
      go : (z : Bool) → eqb form 2 ≡ z → (z || eqb form 3) ≡ true → r ≡ pick_to (extreme z) (sided_reading sides form side ts) (length ts - 1)
          → Adds form ts (sided_reading sides form side ts) r
      go true e u p = (
        omega (arith, ap nat_abs p, largest_small (sided_reading sides form side ts) max_number small (length ts - 1)),
        λ c. ap (λ (z : ℤ). c +ℤ z) p ∙ sym (amount_largest c (pos 1) ts (sided_reading sides form side ts) (eqb-true form 2 e)),
      )
      go false e u p = (
        omega (arith, ap nat_abs p, smallest_small (sided_reading sides form side ts) max_number small (length ts - 1)),
        λ c. ap (λ (z : ℤ). c +ℤ z) p ∙ sym (amount_smallest c (pos 1) ts (sided_reading sides form side ts) (eqb-true form 3 u)),
      )

  pub adds_product : {r : ℤ} → form ≡ 4 → r ≡ sided_reading sides 0 side ts 0 *ℤ sided_reading sides 0 side ts 1 → Adds form ts (sided_reading sides form side ts) r
  adds_product {r} e q =
      let p : r ≡ sided_reading sides form side ts 0 *ℤ sided_reading sides form side ts 1 = q ∙ ap (λ (f : ℕ → ℤ). f 0 *ℤ f 1) same in (
        omega (arith, ap nat_abs p, product_small (sided_reading sides form side ts 0) (sided_reading sides form side ts 1) (small 0) (small 1)),
        λ c. ap (λ (z : ℤ). c +ℤ z) p ∙ sym (amount_product c (pos 1) ts (sided_reading sides form side ts) e),
      )

  pub adds_size : {r : ℤ} → form ≡ 5 → r ≡ pos (nat_abs (sided_reading sides 0 side ts 0)) → Adds form ts (sided_reading sides form side ts) r
  adds_size {r} e q =
      let p : r ≡ pos (nat_abs (sided_reading sides form side ts 0)) = q ∙ ap (λ (f : ℕ → ℤ). pos (nat_abs (f 0))) same in
      (omega (arith, ap nat_abs p, small 0), λ c. ap (λ (z : ℤ). c +ℤ z) p ∙ sym (amount_size c (pos 1) ts (sided_reading sides form side ts) e))

  pub adds_carried : {r : ℤ} → form ≡ 7 → r ≡ sided_reading sides 0 side ts 0 → Adds form ts (sided_reading sides form side ts) r
  adds_carried {r} e q =
      let p : r ≡ sided_reading sides form side ts 0 = q ∙ ap (λ (f : ℕ → ℤ). f 0) same in
      (omega (arith, ap nat_abs p, small 0), λ c. ap (λ (z : ℤ). c +ℤ z) p ∙ sym (amount_carried c (pos 1) ts (sided_reading sides form side ts) e))

-- a body of literals alone adds nothing
pub adds_none : (form : ℕ) (ts : List Term) (at : ℕ → ℤ) → form ≡ 6 → Adds form ts at (pos 0)
adds_none form ts at e = (omega arith, λ c. plus_none c ∙ sym (amount_literals c (pos 1) ts at e))

-- a known form is one of the seven
pub no_other : {form : ℕ} {c d : ℤ} {ts : List Term} → EvaluableAs form c d ts → (form ≡ 1 → ⊥) → (eqb form 2 || eqb form 3) ≡ false
    → (form ≡ 4 → ⊥) → (form ≡ 5 → ⊥) → (form ≡ 6 → ⊥) → (form ≡ 7 → ⊥) → ⊥
no_other {form} e a t k l m n = seven (λ i. form ≡ i → ⊥) a (not_first form 2 3 t) (not_second form 2 3 t) k l m n form e.from e.to refl

-- what a sum amounts to
pub amount_one : (sides : List ℤ) {form : ℕ} (side : Bool) (c : ℤ) (ts : List Term) {r : ℤ} → form ≡ 1
    → r ≡ c +ℤ sum_below (weighted ts (sided_reading sides 1 side ts)) (length ts) → r ≡ amount_of form c (pos 1) ts (sided_reading sides form side ts)
amount_one sides side c ts e q =
    q ∙ sym (amount_sum c (pos 1) ts (sided_reading sides 1 side ts) refl ∙ over_one _)
    ∙ ap (λ (k : ℕ). amount_of k c (pos 1) ts (sided_reading sides k side ts)) (sym e)

-- ---- the rule in a value

-- forms other than 6 and 7 ask nothing
pub asks_nothing : (v : List ℕ) (at : ℕ → ℤ) → Evaluable (rule_of v) → (eqb (rule_of v).form 6 || eqb (rule_of v).form 7) ≡ false
    → true ≡ all_hold (rule_of v).terms at (length (rule_of v).terms)
asks_nothing v at e t = plain_hold (rule_of v).terms at _ (e.plain (go (eqb (rule_of v).form 8) refl))
  where
    go : (z : Bool) → eqb (rule_of v).form 8 ≡ z → has_literals (term_form (rule_of v).form) ≡ false
    go true q = ap has_literals (sym (read_as_sum (rule_of v).form (eqb-true (rule_of v).form 8 q)))
    go false q =
        sym (ap has_literals (read_as_itself (rule_of v).form (eqb-false (rule_of v).form 8 q)))
        ∙ no_literals (rule_of v).form (not_first (rule_of v).form 6 7 t) (not_second (rule_of v).form 6 7 t)

module _ (v : List ℕ) {b : List ℕ} (y : Handed (rule_body v) b) where
  pub asked_in : (sides : List ℤ) (form : ℕ) (side : Bool) {t : Bool} → t ≡ all_hold (terms_of b) (sided_reading sides form side (terms_of b)) (length (terms_of b))
      → t ≡ all_hold (rule_of v).terms (sided_reading sides form side (rule_of v).terms) (length (rule_of v).terms)
  asked_in sides form side e = e ∙ ap (λ (l : List ℕ). all_hold (terms_of l) (sided_reading sides form side (terms_of l)) (length (terms_of l))) y.is

  module _ {h : RuleHeader} (x : HeaderIs v h) {f : ℕ} (q : f ≡ term_form h.form) (e : Evaluable (rule_of v)) where
    read_form : f ≡ term_form (rule_of v).form
    read_form = q ∙ ap term_form x.form_is

    pub handed_whole : EvaluableAs f h.c (pos 1) (terms_of b)
    handed_whole = rw (read_form, x.c_is, y.is) (whole e)

    module _ (sides : List ℤ) (side : Bool) {a : ℤ} (p : a ≡ amount_of f h.c (pos 1) (terms_of b) (sided_reading sides f side (terms_of b))) where
      undivided : a ≡ amount_of (term_form (rule_of v).form) (rule_of v).c (pos 1) (rule_of v).terms (sided_reading sides (term_form (rule_of v).form) side (rule_of v).terms)
      undivided = p ∙ rw (read_form, x.c_is, y.is)

      pub amount_whole : (h.form ≡ 8 → ⊥) → a ≡ amount (rule_of v) (sided_reading sides (term_form (rule_of v).form) side (rule_of v).terms)
      amount_whole n =
          undivided
          ∙ ap (λ (d : ℤ). amount_of (term_form (rule_of v).form) (rule_of v).c d (rule_of v).terms (sided_reading sides (term_form (rule_of v).form) side (rule_of v).terms))
          (sym (divided_by_one v (λ k. n (x.form_is ∙ k))))

      -- ---- a rule of form 8: a sum over its divisor

      module _ (k : h.form ≡ 8) {d : ℤ} (o : d ≡ divisor_of (rule_of v)) where
        sum_form : term_form (rule_of v).form ≡ 1
        sum_form = sym (read_as_sum (rule_of v).form (sym x.form_is ∙ k))

        total : a ≡ (rule_of v).c +ℤ sum_below (weighted (rule_of v).terms (sided_reading sides (term_form (rule_of v).form) side (rule_of v).terms)) (length (rule_of v).terms)
        total = undivided ∙ amount_sum _ _ _ _ sum_form ∙ over_one _

        pub amount_over : over_up d a ≡ amount (rule_of v) (sided_reading sides (term_form (rule_of v).form) side (rule_of v).terms)
        amount_over = ap₂ over_up o total ∙ sym (amount_sum _ _ _ _ sum_form)

        pub over_fits : Small sides → (pos 1 ≤ℤ d) × (nat_abs a + nat_abs d < 2 ^ 63)
        over_fits s =
            let ts = (rule_of v).terms in
            let w = total_small sides (term_form (rule_of v).form) side ts s (e.weights sum_form) (length ts) (omega arith) in
            let m = abs_add (rule_of v).c (sum_below (weighted ts (sided_reading sides (term_form (rule_of v).form) side ts)) (length ts)) in
            (rw o e.divisor_least, omega (arith, e.near, e.few, e.divisor_near, ap nat_abs o, ap nat_abs total, w, m))
