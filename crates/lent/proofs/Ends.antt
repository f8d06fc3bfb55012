-- With lent ranges there is always a model: every founded variable at its range's far end, where all lifts stop.
use Rattle.std.specs.Prelude.{Some}
use Prim.Native.Nat.{ℕ, ◌<◌}
use mathlib.Core.Path.{◌≡◌, refl, sym, subst}
use mathlib.Core.Bool.{not, cond}
use lib.Dec.{T}
use lib.ListN.{length}
use Rattle.program.specs.Program.{Program, variable_in, rule_in}
use Rattle.program.specs.Variables.{is_founded, swaps, in_range, no_more}
use Rattle.program.specs.Readings.{Valuation}
use Rattle.program.proofs.IdleRules.{under_no_more}
use Rattle.program.proofs.Promises.{Promises}
use Rattle.program.proofs.Tests.{cases}
use Rattle.program.proofs.Variables.{past_refl}
use Rattle.meaning.specs.Founded.{System, GivenNoMore, Model}
use Rattle.meaning.specs.Reduct.{reckoned}
use Rattle.lent.specs.Lent.{lent_gives, lent}
use Rattle.lent.proofs.Fits.{Fitting, lent_founded, lent_no_more, lent_low_in, lent_far_in}
use Rattle.lent.proofs.LentLaws.{lent_end}

-- founded variables at their far ends, standard ones at their low ends
abbrev pub ended : Program → Valuation → Valuation → Valuation
ended P low high v = let x = variable_in P.variables v in cond (is_founded x) (swaps x (high v) (low v)) (low v)

module _ {P : Program} (p : Promises P) {low high : Valuation} (f : Fitting P low high) where
  abbrev 𝒮 : System
  𝒮 = reckoned P (lent P low high)

  ended_rules : (i : ℕ) → i < length P.rules
      → let r = rule_in P.rules i in GivenNoMore 𝒮 r.head (lent_gives P.variables low high r (ended P low high)) (ended P low high r.head)
  ended_rules i h =
      let r = rule_in P.rules i in
      let v = r.head in
      let x = variable_in P.variables v in
      let a = swaps x (high v) (low v) in
      let g = lent_gives P.variables low high r (ended P low high) in
      subst (λ b. T (no_more (𝒮.variable v) g (cond b a (low v)))) (sym (p.rules i h).head_founded)
      (subst T (sym (lent_no_more x (low v) (high v) g a)) (under_no_more x g (Some a) a (lent_end P.variables low high r (ended P low high)) (past_refl x a)))

  pub ends_model : Model 𝒮 low (ended P low high)
  ends_model = record {
    standard = λ v n. let x = variable_in P.variables v in
        cases (is_founded x) (λ b. T (not b) → cond b (swaps x (high v) (low v)) (low v) ≡ low v) (λ t k. absurd k) (λ t k. refl)
        (subst (λ b. T (not b)) (lent_founded x (low v) (high v)) n);
    within = record {
      inside = λ v. let x = variable_in P.variables v in
          cases (is_founded x) (λ b. T (in_range (𝒮.variable v) (cond b (swaps x (high v) (low v)) (low v)))) (λ t. lent_far_in x (low v) (high v) (f.range v))
          (λ t. lent_low_in x (low v) (high v) (f.range v));
    };
    rules = ended_rules;
  }
