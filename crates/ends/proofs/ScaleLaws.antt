-- A rule read on the two sides gives what it gives with lent ranges, unless it is undecided; so climbing reaches the bounds.
use Prim.Native.Nat.{ℕ, ◌<◌}
use mathlib.Core.Path.{◌≡◌, refl, sym, ap, ◌∙◌}
use mathlib.Core.Bool.{Bool, true, false, not, cond, ◌||◌, ◌&&◌}
use mathlib.Core.List.{List}
use native.Mathlib.Omega.{arith}
use borrow.Author.Tests.{eqb-true}
use lib.Dec.{T, eqb}
use lib.IntN.{ℤ}
use lib.ListN.{length}
use lib.Signed.{le_z}
use Rattle.format.proofs.Int.{int}
use Rattle.program.specs.Program.{Program, Rule, term_form, variable_in, rule_in}
use Rattle.program.specs.Reading.{Accepts}
use Rattle.program.specs.Variables.{is_founded, from_above, swaps, not_past, no_more, cut_off}
use Rattle.program.specs.Directions.{away, direction, opposite, is_rising, is_mixed}
use Rattle.program.specs.Readings.{Valuation, valued, body_variable, kept}
use Rattle.program.specs.Idle.{demanding, most_at}
use Rattle.program.specs.declared.Direction.{Direction}
use Rattle.program.specs.declared.Direction.TheVariants.{Rising, Falling, Mixed}
use Rattle.program.specs.declared.Variable.{Variable}
use Rattle.program.proofs.Gives.{evaluate_same, promised_evaluable}
use Rattle.program.proofs.Promises.{RulePromise, accepts_promises}
use Rattle.program.proofs.Variables.{past_refl}
use Rattle.meaning.specs.Reduct.{reckoned}
use Rattle.meaning.proofs.InRanges.{value_small}
use Rattle.meaning.proofs.Laws.{to_far_is}
use Rattle.meaning.proofs.Theory.{Progress}
use Rattle.lent.specs.Lent.{lent_in, lent_reading, undecided, lent_gives, lent}
use Rattle.lent.proofs.Fits.{Fitting, lent_past, lent_narrows, low_within}
use Rattle.lent.proofs.LentLaws.{lent_laws, lent_gives_is, decided_single}
use Rattle.lent.proofs.LentGiven.{demanding_single, lent_given_end}
use Rattle.sided.specs.Sides.{on_side, sided_reading}
use Rattle.sided.specs.Reached.{own_side, risen, Sided, side_for, rule_side, sided_gives}
use Rattle.sided.proofs.SideLaws.{sided_direction}
use Rattle.run.specs.Running.{head_of}
use Rattle.ascent.specs.Ascending.{capped, Scales, Climbing}
use Rattle.ends.specs.Ends.{other_end, other_ends, stop_end, stop_ends}
use Rattle.ends.specs.Freed.{Freed}
use Rattle.ends.proofs.FreeLaws.{lent_stop, free_gives}
use Rattle.ends.proofs.TaskLaws.{others_within}

-- ---- one position

-- variable x has these values on the two sides, and pushes this way; h is the head
side_read : (x h : Variable) (d : Direction) (low high : ℤ) (at : Bool → ℤ) → (is_mixed d ≡ true → low ≡ high) → at (not (own_side x)) ≡ other_end x low high
    → (T (not (is_founded x)) → at (own_side x) ≡ low) → at (side_for d (from_above x)) ≡ cond (is_rising (away x d) && is_founded x) (at (own_side x)) (demanding h d low high)
unfolding away swaps other_end demanding own_side
side_read x h d low high at single = go (eqb x.kind 1) (eqb x.kind 2) d refl refl single
  where
    mixed : low ≡ high → (z : ℤ) → (z ≡ low) → z ≡ demanding h Mixed low high
    mixed e z q = q ∙ sym (demanding_single h Mixed low) ∙ ap (demanding h Mixed low) e

    go : (b c : Bool) (d : Direction) → eqb x.kind 1 ≡ b → eqb x.kind 2 ≡ c → (is_mixed d ≡ true → low ≡ high) → at (not (not b)) ≡ cond b low high
        → (T (not (b || c)) → at (not b) ≡ low) → at (side_for d c) ≡ cond (is_rising (cond c (opposite d) d) && (b || c)) (at (not b)) (demanding h d low high)
    go true true d p q s e f = absurd (omega (arith, eqb-true x.kind 1 p, eqb-true x.kind 2 q))
    go true false Rising p q s e f = refl
    go true false Falling p q s e f = e
    go true false Mixed p q s e f = mixed (s refl) (at true) e
    go false true Rising p q s e f = e
    go false true Falling p q s e f = refl
    go false true Mixed p q s e f = mixed (s refl) (at false) (e ∙ sym (s refl))
    go false false Rising p q s e f = e
    go false false Falling p q s e f = f tt
    go false false Mixed p q s e f = mixed (s refl) (at true) (f tt)

-- ---- one rule

module _ (vs : List Variable) (low high : Valuation) (r : Rule) where
  module _ (ordered : (v : ℕ) → T (le_z (low v) (high v))) (p : RulePromise vs r) (e : undecided vs low high r ≡ false) (sides : List ℤ)
      (k : Sided vs low (other_ends vs low high) sides) where
    decided_read : (j : ℕ) → j < length r.terms
        → sided_reading sides (term_form r.form) (rule_side vs r) r.terms j ≡ lent_reading vs low high r (risen vs sides) j
    unfolding risen kept most_at
    decided_read j l =
        let x = body_variable r j in
        sided_direction vs r p sides j l
        ∙ side_read (variable_in vs x) (variable_in vs r.head) (direction vs r j) (low x) (high x) (λ (b : Bool). on_side sides b x)
        (λ t. let q = decided_single vs low high r e j l t in let o = ordered x in omega int) (k.other x) (k.standard x)

    -- a decided rule, read on its sides
    pub lent_sided : lent_gives vs low high r (risen vs sides) ≡ cut_off (variable_in vs r.head) (stop_ends vs low high r.head) (sided_gives vs sides r)
    unfolding stop_end
    lent_sided =
        let at = sided_reading sides (term_form r.form) (rule_side vs r) r.terms in
        lent_gives_is vs low high r (risen vs sides)
        ∙ rw (e, evaluate_same r at (lent_reading vs low high r (risen vs sides)) decided_read (promised_evaluable p))

  -- an undecided rule is met where its head has its stop
  pub lent_freely : undecided vs low high r ≡ true → (m : Valuation) → m r.head ≡ stop_ends vs low high r.head
      → T (no_more (lent_in vs low high r.head) (lent_gives vs low high r m) (m r.head))
  lent_freely e m q = rw (free_gives vs low high r e m, q) (past_refl (lent_in vs low high r.head) (stop_ends vs low high r.head))

-- no value on the way passes its stop
pub lent_short : (P : Program) (low high : Valuation) {m : Valuation} → Progress (reckoned P (lent P low high)) low m → (v : ℕ)
    → T (not_past (variable_in P.variables v) (m v) (stop_ends P.variables low high v))
lent_short P low high k v =
    let x = variable_in P.variables v in
    rw (lent_past x (low v) (high v), lent_stop x (low v) (high v)) at (to_far_is k.within v).le

-- ---- every rule

pub lent_scales : {s : List ℕ} {P : Program} → Accepts s P → (low high : Valuation) → Fitting P low high → (stops : List ℤ)
    → ((v : ℕ) → valued stops v ≡ stop_ends P.variables low high v) → Scales P (lent P low high) low (other_ends P.variables low high) stops true
unfolding capped
lent_scales {P = P} x low high f stops z = record {
  laws = lent_laws (accepts_promises x) f;
  narrows = lent_narrows f;
  assigned = low_within f;
  small = value_small (accepts_promises x) (others_within f);
  inside = λ i l m a e t. record { le = lent_given_end P.variables low high (rule_in P.rules i) m a e };
  short = λ e m k v. rw (z v) (lent_short P low high k v);
  free = λ i. undecided P.variables low high (rule_in P.rules i);
  freely = λ i l e. (refl, λ m q. lent_freely P.variables low high (rule_in P.rules i) e m (q ∙ z (head_of P i)));
  finds = λ i l e sides k t.
      rw (z (head_of P i)) (lent_sided P.variables low high (rule_in P.rules i) (λ v. (f.range v).ordered.le) ((accepts_promises x).rules i l) e sides k);
}

-- where the heads of undecided rules have their stops, the values climb
pub lent_climbing : {s : List ℕ} {P : Program} → Accepts s P → (low high : Valuation) → Fitting P low high → (stops : List ℤ)
    → ((v : ℕ) → valued stops v ≡ stop_ends P.variables low high v) → {sides : List ℤ} → Freed P low high (length P.rules) sides
    → Climbing P (lent P low high) low (other_ends P.variables low high) stops true sides
unfolding lent_scales
lent_climbing {P = P} x low high f stops z k = record {
  scales = lent_scales x low high f stops z;
  sided = k.sided;
  progress = k.progress;
  arrived = λ i l e. k.free i l e ∙ sym (z (head_of P i));
}
