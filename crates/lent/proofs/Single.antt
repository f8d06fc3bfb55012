-- With single ranges and every rule met, the least model of the reduct is the bounds: no rule is undecided, none gives past its head's value, and so no cut
-- takes anything away.
use Rattle.std.specs.Prelude.{Some}
use Prim.Native.Nat.{ℕ, ◌<◌}
use mathlib.Core.Path.{◌≡◌, refl, sym, subst, ap, ap₂, ◌∙◌}
use mathlib.Core.Bool.{Bool, true, false, not, cond, ◌&&◌}
use mathlib.Core.List.{List}
use lib.Dec.{T}
use lib.IntN.{ℤ}
use lib.ListN.{length}
use lib.Signed.{lt_z, le_z}
use Rattle.format.proofs.Int.{int}
use Rattle.program.specs.Program.{Program, Rule, variable_in, rule_in}
use Rattle.program.specs.Variables.{from_above, swaps, far, in_range, no_more, cut_off}
use Rattle.program.specs.Directions.{direction, is_mixed}
use Rattle.program.specs.Evaluate.{evaluate}
use Rattle.program.specs.Readings.{Valuation, body_variable, kept, reading, gives}
use Rattle.program.specs.Idle.{demanding, most_at}
use Rattle.program.specs.declared.Variable.{Variable}
use Rattle.program.proofs.Conditions.{below_none}
use Rattle.program.proofs.Gives.{evaluate_same, promised_evaluable}
use Rattle.program.proofs.IdleRules.{under_no_more}
use Rattle.program.proofs.Promises.{Promises}
use Rattle.program.proofs.Tests.{cases, is_test, not_it, and_both}
use Rattle.program.proofs.Variables.{between}
use Rattle.meaning.specs.Founded.{System, AtOrBefore, GivenNoMore, Within, Model, Least}
use Rattle.meaning.specs.Reduct.{reckoned, system}
use Rattle.meaning.specs.Stable.{RuleMet}
use Rattle.meaning.proofs.Laws.{from_start, to_far_is}
use Rattle.meaning.proofs.Monotone.{laws}
use Rattle.meaning.proofs.Theory.{self_model, met_before}
use Rattle.lent.specs.Lent.{lent_reading, undecided, lent_gives, lent, Bounds}
use Rattle.lent.proofs.Fits.{Fitting, lent_founded, lent_past, lent_start, lent_far, lent_no_more, lent_within, lent_before, before_lent}
use Rattle.lent.proofs.LentLaws.{cut_under, cut_none, lent_gives_is}
use Rattle.lent.proofs.LentGiven.{demanding_single}

-- two ends that are one
swaps_one : (x : Variable) {a b c : ℤ} → a ≡ c → b ≡ c → swaps x a b ≡ c
unfolding swaps
swaps_one x {a} {b} {c} p q = cases (from_above x) (λ t. cond t b a ≡ c) (λ t. q) (λ t. p)

module _ {P : Program} (p : Promises P) {θ low high : Valuation} (f : Fitting P low high) (low_is : (v : ℕ) → low v ≡ θ v) (high_is : (v : ℕ) → high v ≡ θ v) where
  abbrev vs : List Variable
  vs = P.variables

  abbrev 𝒮 : System
  𝒮 = reckoned P (lent P low high)

  pub single_within : Within (system P) θ
  single_within = record {
    inside = λ v. let x = variable_in vs v in
        and_both (le_z x.low (θ v)) (le_z (θ v) x.high) (omega (int, (f.range v).from, low_is v)) (omega (int, (f.range v).to, high_is v));
  }

  far_is : (v : ℕ) → far (𝒮.variable v) ≡ θ v
  far_is v = lent_far (variable_in vs v) (low v) (high v) ∙ swaps_one (variable_in vs v) (high_is v) (low_is v)

  -- no rule is undecided
  single_decided : (r : Rule) → undecided vs low high r ≡ false
  unfolding undecided
  single_decided r = below_none _ _ (λ j l. go (is_mixed (direction vs r j)) (body_variable r j))
    where
      go : (b : Bool) (x : ℕ) → (b && lt_z (low x) (high x)) ≡ false
      go false x = refl
      go true x = not_it (lt_z (low x) (high x)) (λ e. let t : T (lt_z (low x) (high x)) = is_test e in omega (int, low_is x, high_is x))

  -- every position is read as in the reduct
  reading_is : (r : Rule) (m : Valuation) (j : ℕ) → lent_reading vs low high r m j ≡ reading vs r m θ j
  unfolding most_at
  reading_is r m j =
      let x = body_variable r j in
      let h = variable_in vs r.head in
      let d = direction vs r j in
      ap (λ a. cond (kept vs r j) (m x) a) (ap₂ (demanding h d) (low_is x) (high_is x) ∙ demanding_single h d (θ x))

  -- so a rule gives what it gives in the reduct, cut off at its head's value
  gives_is : (i : ℕ) → i < length P.rules → (m : Valuation)
      → let r = rule_in P.rules i in lent_gives vs low high r m ≡ cut_off (variable_in vs r.head) (θ r.head) (gives vs r m θ)
  unfolding gives
  gives_is i h m =
      lent_gives_is vs low high r m
      ∙ ap (λ b. cond b (Some e) (cut_off x e (evaluate r (lent_reading vs low high r m)))) (single_decided r)
      ∙ ap₂ (cut_off x) (swaps_one x (high_is r.head) (low_is r.head))
      (evaluate_same r (lent_reading vs low high r m) (reading vs r m θ) (λ j l. reading_is r m j) (promised_evaluable (p.rules i h)))
    where
      r : Rule
      r = rule_in P.rules i

      x : Variable
      x = variable_in vs r.head

      e : ℤ
      e = swaps x (high r.head) (low r.head)

  module _ (met : (i : ℕ) → i < length P.rules → RuleMet P θ i) where
    -- the assignment is a model of its own reduct
    pub single_model : Model (system P) θ θ
    single_model = self_model single_within met

    -- a model with the lent ranges is one of the reduct
    single_reduct : {m : Valuation} → Model 𝒮 low m → Model (system P) θ m
    single_reduct {m} k = record {
      standard = λ v n. k.standard v (subst (λ b. T (not b)) (sym (lent_founded (variable_in vs v) (low v) (high v))) n) ∙ low_is v;
      within = w;
      rules = rules;
    }
      where
        w : Within (system P) m
        w = lent_within f k.within

        before : (v : ℕ) → AtOrBefore (system P) v (m v) (θ v)
        before v = subst (λ a. AtOrBefore (system P) v (m v) a) (far_is v) (lent_before f (to_far_is k.within v))

        rules : (i : ℕ) → i < length P.rules → let r = rule_in P.rules i in GivenNoMore (system P) r.head (gives vs r m θ) (m r.head)
        rules i h =
            let r = rule_in P.rules i in
            let x = variable_in vs r.head in
            let g = gives vs r m θ in
            let few = met_before (laws p) (record { assigned = single_within; earlier = w; later = single_within; under = λ v t. before v }) i h (θ r.head) (met i h) in
            subst (λ c. T (no_more x c (m r.head))) (gives_is i h m ∙ sym (cut_none x (θ r.head) g few))
            (subst T (lent_no_more x (low r.head) (high r.head) (lent_gives vs low high r m) (m r.head)) (k.rules i h))

    pub single_bounds : {M : Valuation} → Least (system P) θ M → Bounds P low high M
    single_bounds {M} least = record { model = model; floor = record { under = λ m k v. before_lent f (least.floor.under m (single_reduct k) v) } }
      where
        inside : (v : ℕ) → T (in_range (𝒮.variable v) (M v))
        inside v =
            let x = variable_in vs v in
            between (𝒮.variable v) (M v) (rw (lent_past x (low v) (high v), lent_start x (low v) (high v)) (from_start least.model.within v).le)
            (rw (far_is v, lent_past x (low v) (high v)) (least.floor.under θ single_model v).le)

        rules : (i : ℕ) → i < length P.rules → let r = rule_in P.rules i in GivenNoMore 𝒮 r.head (lent_gives vs low high r M) (M r.head)
        rules i h =
            let r = rule_in P.rules i in
            let x = variable_in vs r.head in
            let g = gives vs r M θ in
            subst (λ c. T (no_more (𝒮.variable r.head) c (M r.head))) (sym (gives_is i h M))
            (subst T (sym (lent_no_more x (low r.head) (high r.head) (cut_off x (θ r.head) g) (M r.head)))
            (under_no_more x (cut_off x (θ r.head) g) g (M r.head) (cut_under x (θ r.head) g) (least.model.rules i h)))

        model : Model 𝒮 low M
        model = record {
          standard = λ v n. least.model.standard v (subst (λ b. T (not b)) (lent_founded (variable_in vs v) (low v) (high v)) n) ∙ sym (low_is v);
          within = record { inside = inside };
          rules = rules;
        }
