-- A position read on its side is read as the reduct reads it; so the reduct can be climbed.
use Prim.Native.Nat.{ℕ, ◌<◌}
use mathlib.Core.Path.{◌≡◌, refl, sym, ap, ◌∙◌}
use mathlib.Core.Logic.{inl}
use mathlib.Core.Bool.{Bool, true, false, not, cond, ◌&&◌, ◌||◌, true≢false}
use mathlib.Core.List.{List}
use native.Mathlib.Omega.{arith}
use lib.Dec.{T, eqb}
use lib.IntN.{ℤ}
use lib.ListN.{length}
use borrow.Author.Tests.{eqb-true}
use Rattle.program.specs.Program.{Program, Rule, rule_in, term_form, variable_in}
use Rattle.program.specs.Reading.{Accepts}
use Rattle.program.specs.Variables.{is_founded, from_above, swaps}
use Rattle.program.specs.Directions.{opposite, away, direction, is_rising}
use Rattle.program.specs.Readings.{Valuation, body_variable, valued, kept, reading, gives}
use Rattle.program.specs.declared.Direction.{Direction}
use Rattle.program.specs.declared.Direction.TheVariants.{Rising, Falling, Mixed}
use Rattle.program.specs.declared.Variable.{Variable}
use Rattle.program.proofs.Gives.{evaluate_same, promised_evaluable}
use Rattle.program.proofs.Promises.{Promises, RulePromise, accepts_promises}
use Rattle.meaning.specs.Founded.{Within, Model}
use Rattle.meaning.specs.Reduct.{reduct, system}
use Rattle.meaning.specs.Stable.{RuleMet}
use Rattle.meaning.proofs.InRanges.{value_small}
use Rattle.meaning.proofs.Monotone.{laws}
use Rattle.meaning.proofs.Narrowing.{reduct_narrows}
use Rattle.meaning.proofs.Theory.{Progress, self_model, under_given}
use Rattle.sided.specs.Sides.{on_side, sided_reading}
use Rattle.sided.specs.Reached.{own_side, risen, Sided, side_for, rule_side, sided_gives}
use Rattle.sided.proofs.SideLaws.{sided_direction}
use Rattle.run.specs.Running.{head_of}
use Rattle.ascent.specs.Ascending.{capped, AllReadOn, Scales, Climbing}
use Rattle.ascent.proofs.CutLaws.{capped_same}

-- ---- a direction

module _ (x : Variable) (sides : List ℤ) (a : ℤ) (v : ℕ) where
  on_side_is : (d : Direction) → on_side sides (not (own_side x)) v ≡ a → (T (not (is_founded x)) → on_side sides (own_side x) v ≡ a)
      → on_side sides (side_for d (from_above x)) v ≡ cond (is_rising (away x d) && is_founded x) (on_side sides (own_side x) v) a
  unfolding own_side away swaps
  on_side_is d = go (eqb x.kind 1) (eqb x.kind 2) d refl refl
    where
      go : (b c : Bool) (d : Direction) → eqb x.kind 1 ≡ b → eqb x.kind 2 ≡ c → on_side sides (not (not b)) v ≡ a → (T (not (b || c)) → on_side sides (not b) v ≡ a)
          → on_side sides (side_for d c) v ≡ cond (is_rising (cond c (opposite d) d) && (b || c)) (on_side sides (not b) v) a
      go true true d p q o s = let z = eqb-true x.kind 1 p in let y = eqb-true x.kind 2 q in absurd (omega arith)
      go true false Rising p q o s = refl
      go true false Falling p q o s = o
      go true false Mixed p q o s = o
      go false true Rising p q o s = o
      go false true Falling p q o s = refl
      go false true Mixed p q o s = o
      go false false Rising p q o s = o
      go false false Falling p q o s = s tt
      go false false Mixed p q o s = s tt

-- ---- a rule

module _ (vs : List Variable) (r : Rule) (p : RulePromise vs r) {θ : Valuation} {sides : List ℤ} (s : Sided vs θ θ sides) where
  reading_sided : (j : ℕ) → j < length r.terms → sided_reading sides (term_form r.form) (rule_side vs r) r.terms j ≡ reading vs r (risen vs sides) θ j
  unfolding risen kept
  reading_sided j l =
      let v = body_variable r j in
      sided_direction vs r p sides j l ∙ on_side_is (variable_in vs v) sides (θ v) v (direction vs r j) (s.other v) (s.standard v)

  pub gives_sided : sided_gives vs sides r ≡ gives vs r (risen vs sides) θ
  unfolding gives
  gives_sided = evaluate_same r (sided_reading sides (term_form r.form) (rule_side vs r) r.terms) (reading vs r (risen vs sides) θ) reading_sided (promised_evaluable p)

-- ---- every rule

pub reduct_read : {s : List ℕ} {P : Program} → Accepts s P → {θ : Valuation} {sides : List ℤ} → Sided P.variables θ θ sides → (stops : List ℤ)
    → AllReadOn P (reduct P) θ stops false sides
unfolding capped
reduct_read {P = P} a s stops i l = record {
  order = λ b c. refl;
  found = inl (sym (gives_sided P.variables (rule_in P.rules i) ((accepts_promises a).rules i l) s));
  short = λ e. absurd (true≢false (sym e));
}

unfoldable pub reduct_scales : {P : Program} → Promises P → {θ : Valuation} → Within (system P) θ → (stops : List ℤ) → ((v : ℕ) → valued stops v ≡ θ v) → (full : Bool)
    → (full ≡ true → (i : ℕ) → i < length P.rules → RuleMet P θ i) → Scales P (reduct P) θ θ stops full
reduct_scales {P} p {θ} w stops z full met = record {
  laws = laws p;
  narrows = reduct_narrows P;
  assigned = w;
  small = value_small p w;
  inside = λ i l m a e t. record { le = t };
  short = λ f m k v. rw (z v) (k.floor.under θ (self f) v).le;
  free = λ i. false;
  freely = λ i l e. absurd (true≢false (sym e));
  finds = λ i l e sides s k.
      let h = head_of P i in
      let g = gives P.variables (rule_in P.rules i) (risen P.variables sides) θ in
      sym (ap (capped full (variable_in P.variables h) (valued stops h)) (gives_sided P.variables (rule_in P.rules i) (p.rules i l) s)
      ∙ capped_same (variable_in P.variables h) (valued stops h) full g (λ f. rw (z h) (under_given (laws p) w k i l θ (self f))));
}
  where
    -- the assignment is a model of its own reduct, which no value on the way passes
    self : full ≡ true → Model (system P) θ θ
    self f = self_model w (met f)

-- no rule of the reduct is free
pub reduct_climbing : {P : Program} → Promises P → {θ : Valuation} → Within (system P) θ → (stops : List ℤ) → ((v : ℕ) → valued stops v ≡ θ v) → (full : Bool)
    → (full ≡ true → (i : ℕ) → i < length P.rules → RuleMet P θ i) → {sides : List ℤ} → Sided P.variables θ θ sides
    → Progress (system P) θ (risen P.variables sides) → Climbing P (reduct P) θ θ stops full sides
unfolding reduct_scales
reduct_climbing {P} p {θ} w stops z full met {sides} s k = record {
  scales = reduct_scales p w stops z full met;
  sided = s;
  progress = k;
  arrived = λ i l e. absurd (true≢false (sym e));
}
