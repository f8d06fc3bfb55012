-- A rule's estimate, by its header and the body that is handed on.
use Rattle.std.specs.Prelude.{Some, None}
use Prim.Native.Nat.{ℕ}
use mathlib.Core.Path.{◌≡◌, sym, ap, ◌∙◌}
use mathlib.Core.Bool.{Bool, true, false}
use mathlib.Core.List.{List}
use lib.IntN.{ℤ, pos}
use lib.ListN.{length}
use Rattle.program.specs.Program.{rule_of, rule_body, term_form, divisor_of, terms_of}
use Rattle.program.specs.Evaluate.{all_hold}
use Rattle.program.specs.Evaluable.{has_literals, Evaluable}
use Rattle.program.specs.declared.Variable.{Variable}
use Rattle.program.proofs.Gives.{plain_hold}
use Rattle.program.proofs.Forms.{divided_by_one, read_as_sum, read_as_itself}
use Rattle.parts.specs.Values.{HeaderIs, Handed}
use Rattle.parts.specs.declared.rules.RuleHeader.{RuleHeader}
use Rattle.bodies.specs.Readings.{reading_of}
use Rattle.steady.specs.Estimate.{estimated_as, estimate}
use Rattle.steady.specs.Strides.{stride_at}

module _ (v : List ℕ) {h : RuleHeader} {b : List ℕ} (x : HeaderIs v h) (y : Handed (rule_body v) b) (head : Variable) (own kept : ℕ)
    (first aims second strides : List ℤ) where
  -- the present values and the aims
  abbrev at : ℕ → ℤ
  at = reading_of kept first second (rule_of v).terms

  abbrev aim : ℕ → ℤ
  aim = reading_of kept aims second (rule_of v).terms

  abbrev stride : ℕ → ℕ
  stride = stride_at strides (rule_of v).terms

  met_as : {t : Bool} → t ≡ all_hold (terms_of b) (reading_of kept first second (terms_of b)) (length (terms_of b)) → t ≡ all_hold (rule_of v).terms at (length (rule_of v).terms)
  met_as e = e ∙ ap (λ (l : List ℕ). all_hold (terms_of l) (reading_of kept first second (terms_of l)) (length (terms_of l))) y.is

  pub estimate_nothing : false ≡ all_hold (terms_of b) (reading_of kept first second (terms_of b)) (length (terms_of b)) → None ≡ estimate head own stride (rule_of v) at aim
  unfolding estimate
  estimate_nothing e = rw (← met_as e)

  -- of another form than 8
  pub estimate_value : (h.form ≡ 8 → ⊥) → {a : ℤ} → true ≡ all_hold (terms_of b) (reading_of kept first second (terms_of b)) (length (terms_of b))
      → a ≡ estimated_as h.form head own (stride_at strides (terms_of b)) h.c (pos 1) (terms_of b) (reading_of kept first second (terms_of b)) (reading_of kept aims second (terms_of b))
      → Some a ≡ estimate head own stride (rule_of v) at aim
  unfolding estimate
  estimate_value f e q = rw (← met_as e) (ap Some (q ∙ rw (itself, x.c_is, ← one, y.is)))
    where
      itself : h.form ≡ term_form (rule_of v).form
      itself = read_as_itself h.form f ∙ ap term_form x.form_is

      one : divisor_of (rule_of v) ≡ pos 1
      one = divided_by_one v (λ e. f (x.form_is ∙ e))

  -- of form 8
  pub estimate_divided : h.form ≡ 8 → {d a : ℤ} → d ≡ divisor_of (rule_of v) → Evaluable (rule_of v)
      → a ≡ estimated_as 1 head own (stride_at strides (terms_of b)) h.c d (terms_of b) (reading_of kept first second (terms_of b)) (reading_of kept aims second (terms_of b))
      → Some a ≡ estimate head own stride (rule_of v) at aim
  unfolding estimate
  estimate_divided f p e q =
      rw (← plain_hold (rule_of v).terms at (length (rule_of v).terms) (e.plain (ap has_literals (sym sum))))
      (ap Some (q ∙ rw (x.c_is, p, y.is) (ap (λ (k : ℕ). estimated_as k head own stride (rule_of v).c (divisor_of (rule_of v)) (rule_of v).terms at aim) sum)))
    where
      sum : 1 ≡ term_form (rule_of v).form
      sum = read_as_sum (rule_of v).form (sym x.form_is ∙ f)
