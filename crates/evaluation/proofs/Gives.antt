-- A rule by its header and the body that is handed on.
use Rattle.std.specs.Prelude.{Some, None}
use Prim.Native.Nat.{ℕ}
use mathlib.Core.Path.{◌≡◌, refl, sym, ap, subst, ◌∙◌}
use mathlib.Core.Bool.{Bool, true, false, cond}
use mathlib.Core.List.{List}
use lib.IntN.{ℤ, pos}
use lib.ListN.{length}
use lib.Dec.{eqb}
use borrow.Author.Tests.{ne_eqb, eqb-true, eqb-false}
use Rattle.program.specs.Program.{Rule, rule_of, rule_body, term_form, divisor_of, terms_of}
use Rattle.program.specs.Evaluate.{all_hold, only_if, amount_of, amount, evaluate}
use Rattle.program.specs.Evaluable.{Plain, has_literals, EvaluableAs, Evaluable}
use Rattle.program.specs.Variables.{not_past}
use Rattle.program.specs.declared.Variable.{Variable}
use Rattle.program.proofs.Gives.{given_is}
use Rattle.program.proofs.Forms.{divided_by_one, read_as_sum, read_as_itself}
use Rattle.parts.specs.Values.{HeaderIs, Handed}
use Rattle.parts.specs.declared.rules.RuleHeader.{RuleHeader}
use Rattle.bodies.specs.Readings.{reading_of}
use Rattle.evaluation.specs.Past.{past_only}

-- forms other than 6 and 7 have no literals, and all of none hold
pub no_literals : (form : ℕ) → (form ≡ 6 → ⊥) → (form ≡ 7 → ⊥) → has_literals form ≡ false
no_literals form h k = simp (ne_eqb form 6 h, ne_eqb form 7 k)

-- a rule whose literals do not all hold gives nothing
module _ (r : Rule) (at : ℕ → ℤ) where
  pub given_nothing : false ≡ all_hold r.terms at (length r.terms) → None ≡ evaluate r at
  unfolding evaluate
  given_nothing e = rw (← e)

  -- ---- what is given, where it is past z

  module _ (x : Variable) (z : ℤ) where
    pub past_nothing : false ≡ all_hold r.terms at (length r.terms) → None ≡ past_only x z (evaluate r at)
    unfolding past_only
    past_nothing e = ap (past_only x z) (given_nothing e)

    pub past_before : {a : ℤ} → a ≡ amount r at → not_past x a z ≡ true → None ≡ past_only x z (evaluate r at)
    unfolding evaluate past_only
    past_before {a} q e = go (all_hold r.terms at (length r.terms))
      where
        go : (t : Bool) → None ≡ past_only x z (only_if t (amount r at))
        go true = rw (← q, e)
        go false = refl

    pub past_value : {a : ℤ} → true ≡ all_hold r.terms at (length r.terms) → a ≡ amount r at → not_past x a z ≡ false → Some a ≡ past_only x z (evaluate r at)
    unfolding past_only
    past_value {a} m q e = sym (ap (λ (t : Bool). cond t None (Some a)) e) ∙ ap (past_only x z) (given_is r at m q)

module _ (v : List ℕ) {h : RuleHeader} {b : List ℕ} (x : HeaderIs v h) (y : Handed (rule_body v) b) where
  module _ (kept : ℕ) (first second : List ℤ) where
    pub met_as : {t : Bool} → t ≡ all_hold (terms_of b) (reading_of kept first second (terms_of b)) (length (terms_of b))
        → t ≡ all_hold (rule_of v).terms (reading_of kept first second (rule_of v).terms) (length (rule_of v).terms)
    met_as e = e ∙ ap (λ (l : List ℕ). all_hold (terms_of l) (reading_of kept first second (terms_of l)) (length (terms_of l))) y.is

  -- the requirement on the literals: a rule of form 8 is read as a sum
  pub handed_plain : Evaluable (rule_of v) → has_literals h.form ≡ false → Plain (terms_of b)
  handed_plain e q = rw y.is (e.plain (go (eqb h.form 8) refl))
    where
      go : (t : Bool) → eqb h.form 8 ≡ t → has_literals (term_form (rule_of v).form) ≡ false
      go true f = ap has_literals (sym (read_as_sum (rule_of v).form (sym x.form_is ∙ eqb-true h.form 8 f)))
      go false f = sym (ap has_literals (read_as_itself h.form (eqb-false h.form 8 f) ∙ ap term_form x.form_is)) ∙ q

  -- ---- a rule of another form than 8

  module _ (f : h.form ≡ 8 → ⊥) where
    itself : h.form ≡ term_form (rule_of v).form
    itself = read_as_itself h.form f ∙ ap term_form x.form_is

    one : divisor_of (rule_of v) ≡ pos 1
    one = divided_by_one v (λ e. f (x.form_is ∙ e))

    pub handed_evaluable : Evaluable (rule_of v) → EvaluableAs h.form h.c (pos 1) (terms_of b)
    handed_evaluable e = rw (itself, x.c_is, ← one, y.is) e

    pub amount_as : (kept : ℕ) (first second : List ℤ) {a : ℤ}
        → a ≡ amount_of h.form h.c (pos 1) (terms_of b) (reading_of kept first second (terms_of b))
        → a ≡ amount (rule_of v) (reading_of kept first second (rule_of v).terms)
    amount_as kept first second q = q ∙ rw (itself, x.c_is, ← one, y.is)

  -- ---- a rule of form 8: a sum over its divisor

  module _ (f : h.form ≡ 8) {d : ℤ} (p : d ≡ divisor_of (rule_of v)) where
    sum : 1 ≡ term_form (rule_of v).form
    sum = read_as_sum (rule_of v).form (sym x.form_is ∙ f)

    pub divided_evaluable : Evaluable (rule_of v) → EvaluableAs 1 h.c d (terms_of b)
    divided_evaluable e = rw (x.c_is, p, y.is) (subst (λ (k : ℕ). EvaluableAs k (rule_of v).c (divisor_of (rule_of v)) (rule_of v).terms) (sym sum) e)

    pub divided_as : (kept : ℕ) (first second : List ℤ) {a : ℤ}
        → a ≡ amount_of 1 h.c d (terms_of b) (reading_of kept first second (terms_of b))
        → a ≡ amount (rule_of v) (reading_of kept first second (rule_of v).terms)
    divided_as kept first second q =
        let at = reading_of kept first second (rule_of v).terms in
        q ∙ rw (x.c_is, p, y.is) (ap (λ (k : ℕ). amount_of k (rule_of v).c (divisor_of (rule_of v)) (rule_of v).terms at) sum)
