-- Narrower ranges never give a bound further from the starting end: the lesser of the wider ranges' bound and the narrower ranges' far end is a model there.
use Rattle.std.specs.Prelude.{Option, Some, ℤ}
use Prim.Native.Nat.{ℕ, ◌<◌}
use mathlib.Core.Path.{◌≡◌, refl, sym, subst}
use mathlib.Core.Bool.{true, not, cond}
use mathlib.Core.List.{List}
use lib.Dec.{T}
use lib.ListN.{length}
use Rattle.program.specs.Program.{Program, Rule, variable_in, rule_in}
use Rattle.program.specs.Variables.{is_founded, swaps, start, not_past, in_range, no_more}
use Rattle.program.specs.Readings.{Valuation, body_variable}
use Rattle.program.specs.declared.Variable.{Variable}
use Rattle.program.proofs.IdleRules.{under_no_more}
use Rattle.program.proofs.Promises.{Promises}
use Rattle.program.proofs.Tests.{cases, is_true}
use Rattle.program.proofs.Variables.{past_refl, start_first, between}
use Rattle.meaning.specs.Founded.{System, AtOrBefore, GivenNoMore, Within, Model}
use Rattle.meaning.specs.Reduct.{reckoned, system}
use Rattle.meaning.proofs.Laws.{at_trans, from_start}
use Rattle.meaning.proofs.Lesser.{lesser, lesser_left, lesser_right, lesser_of, lesser_given}
use Rattle.lent.specs.Ranges.{Narrower}
use Rattle.lent.specs.Lent.{lent_variable, lent_gives, lent, Bounds}
use Rattle.lent.proofs.Fits.{Fitting, lent_founded, lent_past, lent_start, lent_far, lent_no_more, lent_inside, lent_low_in, lent_far_in}
use Rattle.lent.proofs.Fits.{lent_within, lent_before, narrower_parts}
use Rattle.lent.proofs.LentLaws.{kept_rises, lent_end, given_up}

module _ {P : Program} (p : Promises P) {low high low' high' : Valuation} (wide : Fitting P low high) (narrow : Fitting P low' high')
    (inner : Narrower P low high low' high') {m : Valuation} (bounds : Bounds P low high m) where
  abbrev vs : List Variable
  vs = P.variables

  abbrev 𝒮' : System
  𝒮' = reckoned P (lent P low' high')

  -- the narrower ranges' far ends
  abbrev ends : Valuation
  ends v = swaps (variable_in vs v) (high' v) (low' v)

  abbrev reach : Valuation
  reach = lesser (system P) m ends

  abbrev τ : Valuation
  τ v = cond (is_founded (variable_in vs v)) (reach v) (low' v)

  τ-founded : (v : ℕ) → is_founded (variable_in vs v) ≡ true → τ v ≡ reach v
  τ-founded v e = rw e

  m_within : Within (system P) m
  m_within = lent_within wide bounds.model.within

  reach_in : (v : ℕ) → T (in_range (𝒮'.variable v) (reach v))
  reach_in v =
      between y (reach v) (rw (lent_past x (low' v) (high' v), lent_start x (low' v) (high' v)) from)
      (rw (lent_past x (low' v) (high' v), lent_far x (low' v) (high' v)) to)
    where
      x : Variable
      x = variable_in vs v

      y : Variable
      y = lent_variable x (low' v) (high' v)

      from : T (not_past x (start x) (reach v))
      from = (lesser_of (system P) m ends v (start x) (from_start m_within v)
          (record { le = start_first x (ends v) (lent_inside x (low' v) (high' v) (narrow.range v) (ends v) (lent_far_in x (low' v) (high' v) (narrow.range v))) })).le

      to : T (not_past x (reach v) (ends v))
      to = (lesser_right (system P) m ends v).le

  τ-within : Within 𝒮' τ
  τ-within = record {
    inside = λ v. cases (is_founded (variable_in vs v)) (λ b. T (in_range (𝒮'.variable v) (cond b (reach v) (low' v)))) (λ t. reach_in v)
        (λ t. lent_low_in (variable_in vs v) (low' v) (high' v) (narrow.range v));
  }

  τ-before : (v : ℕ) → is_founded (variable_in vs v) ≡ true → AtOrBefore (system P) v (τ v) (m v)
  τ-before v e = rw (τ-founded v e) (lesser_left (system P) m ends v)

  τ-rules : (i : ℕ) → i < length P.rules
      → let r = rule_in P.rules i in GivenNoMore 𝒮' r.head (lent_gives vs low' high' r τ) (τ r.head)
  τ-rules i h = subst (λ a. T (no_more (𝒮'.variable r.head) g a)) (sym (τ-founded r.head (p.rules i h).head_founded))
      (subst T (sym (lent_no_more x (low' r.head) (high' r.head) g (reach r.head))) (lesser_given (system P) m ends r.head g left right))
    where
      r : Rule
      r = rule_in P.rules i

      x : Variable
      x = variable_in vs r.head

      g : Option ℤ
      g = lent_gives vs low' high' r τ

      left : T (no_more x g (m r.head))
      left = under_no_more x g (lent_gives vs low high r m) (m r.head)
          (given_up p wide narrow (narrower_parts P wide narrow inner) i h m_within (lent_within narrow τ-within)
          (λ j l k. τ-before (body_variable r j) (kept_rises vs r j k).1))
          (subst T (lent_no_more x (low r.head) (high r.head) (lent_gives vs low high r m) (m r.head)) (bounds.model.rules i h))

      right : T (no_more x g (ends r.head))
      right = under_no_more x g (Some (ends r.head)) (ends r.head) (lent_end vs low' high' r τ) (past_refl x (ends r.head))

  τ-model : Model 𝒮' low' τ
  τ-model = record {
    standard = λ v n. cases (is_founded (variable_in vs v)) (λ b. T (not b) → cond b (reach v) (low' v) ≡ low' v) (λ t f. absurd f) (λ t f. refl)
        (subst (λ b. T (not b)) (lent_founded (variable_in vs v) (low' v) (high' v)) n);
    within = τ-within;
    rules = τ-rules;
  }

  pub narrower_bounds : {m' : Valuation} → Bounds P low' high' m' → (v : ℕ) → T (is_founded (variable_in vs v)) → AtOrBefore (system P) v (m' v) (m v)
  narrower_bounds bounds' v t = at_trans (lent_before narrow (bounds'.floor.under τ τ-model v)) (τ-before v (is_true _ t))
