-- Lent ranges that lie inside their declared ones: what they make of a variable, its order and its ends. Past the last variable a lent range is 0..0, as
-- the declared one is.
use Rattle.std.specs.Prelude.{Option, Some, None}
use Prim.Native.Nat.{ℕ, ◌+◌, ◌*◌, ◌<◌, ◌≤◌}
use mathlib.Core.Path.{◌≡◌, refl}
use mathlib.Core.Bool.{true, cond, ◌&&◌}
use mathlib.Core.List.{List}
use native.Mathlib.Omega.{arith}
use lib.Dec.{T, ltb, ltb→lt, nltb→le}
use lib.IntN.{ℤ, pos}
use lib.ListN.{length, get_or-eq_default}
use lib.Signed.{le_z, le_z_yes, ◌≤ℤ◌}
use Rattle.format.proofs.Int.{int}
use Rattle.program.specs.Program.{Program, no_variable, variable_in}
use Rattle.program.specs.Variables.{is_founded, from_above, swaps, start, far, not_past, in_range, no_more, cut_off}
use Rattle.program.specs.Readings.{Valuation}
use Rattle.program.specs.declared.Variable.{Variable}
use Rattle.program.proofs.Tests.{cases, is_test, and_left, and_right, and_both}
use Rattle.program.proofs.IdleRules.{RangeIn}
use Rattle.meaning.specs.Founded.{AtOrBefore, Within}
use Rattle.meaning.specs.Narrowing.{Narrows}
use Rattle.meaning.specs.Reduct.{reckoned, system}
use Rattle.meaning.proofs.InRanges.{signed_past}
use Rattle.meaning.proofs.Narrowing.{narrows_within}
use Rattle.lent.specs.Ranges.{low_in, high_in, fits, AllFit, Narrower}
use Rattle.lent.specs.Lent.{lent_variable, lent}

-- ---- ranges inside the declared ones

-- every range lies inside its declared one
pub record Fitting (P : Program) (low high : Valuation) : Type 0 where
  pub range : (v : ℕ) → RangeIn (variable_in P.variables v) (low v) (high v)

pub fits_range : (x : Variable) (low high : ℤ) → fits x low high ≡ true → RangeIn x low high
unfolding fits
fits_range x low high e =
    let t : T (le_z x.low low && (le_z low high && le_z high x.high)) = is_test e in
    let u = and_right (le_z x.low low) (le_z low high && le_z high x.high) t in
    record {
      from = le_z_yes (and_left (le_z x.low low) (le_z low high && le_z high x.high) t);
      ordered = le_z_yes (and_left (le_z low high) (le_z high x.high) u);
      to = le_z_yes (and_right (le_z low high) (le_z high x.high) u);
    }

-- what holds of the declared variables, and of one of range 0..0 past them, holds of all
pub declared_or : (P : Program) (C : ℕ → Type 0) → ((v : ℕ) → v < length P.variables → C v)
    → ((v : ℕ) → length P.variables ≤ v → no_variable ≡ variable_in P.variables v → C v) → (v : ℕ) → C v
declared_or P C f g v = cases (ltb v n) (λ b. C v) (λ t. f v (ltb→lt v n t)) (λ t. let h = nltb→le v n t in g v h (rw (get_or-eq_default P.variables no_variable h)))
  where
    n : ℕ
    n = length P.variables

pub fitting : (P : Program) {low high : Valuation} → AllFit P low high → ((v : ℕ) → length P.variables ≤ v → low v ≡ pos 0)
    → ((v : ℕ) → length P.variables ≤ v → high v ≡ pos 0) → Fitting P low high
fitting P {low} {high} all l h = record {
  range = declared_or P (λ v. RangeIn (variable_in P.variables v) (low v) (high v)) (λ v k. fits_range (variable_in P.variables v) (low v) (high v) (all v k))
      (λ v k e. rw (l v k, h v k, ← e) (record { from = omega int; ordered = omega int; to = omega int }));
}

-- the ranges of a call
pub ranges_fitting : (P : Program) (g : List ℕ) → length g ≡ 4 * length P.variables → AllFit P (low_in g) (high_in g) → Fitting P (low_in g) (high_in g)
ranges_fitting P g e all = fitting P all (λ v h. signed_past g (4 * v) (omega arith)) (λ v h. signed_past g (4 * v + 2) (omega arith))

-- the single ranges of an assignment that lies in its declared ranges
pub single_fitting : (P : Program) {θ : Valuation} → Within (system P) θ → Fitting P θ θ
single_fitting P {θ} w = record {
  range = λ v. let x = variable_in P.variables v in
      record {
        from = le_z_yes (and_left (le_z x.low (θ v)) (le_z (θ v) x.high) (w.inside v));
        ordered = omega int;
        to = le_z_yes (and_right (le_z x.low (θ v)) (le_z (θ v) x.high) (w.inside v));
      };
}

-- ---- a variable with a lent range: its kind, order and starting end are the declared ones, its far end is that of the lent range

module _ (x : Variable) (low high : ℤ) where
  pub lent_kind : (lent_variable x low high).kind ≡ x.kind
  unfolding lent_variable
  lent_kind = refl

  pub lent_founded : is_founded (lent_variable x low high) ≡ is_founded x
  unfolding lent_variable
  lent_founded = refl

  pub lent_past : (a b : ℤ) → not_past (lent_variable x low high) a b ≡ not_past x a b
  unfolding lent_variable not_past swaps
  lent_past a b = refl

  pub lent_start : start (lent_variable x low high) ≡ start x
  unfolding lent_variable start swaps
  lent_start = cases (from_above x) (λ t. cond t (cond t x.high high) (cond t low x.low) ≡ cond t x.high x.low) (λ t. refl) (λ t. refl)

  pub lent_far : far (lent_variable x low high) ≡ swaps x high low
  unfolding lent_variable far swaps
  lent_far = cases (from_above x) (λ t. cond t (cond t low x.low) (cond t x.high high) ≡ cond t low high) (λ t. refl) (λ t. refl)

  pub lent_no_more : (g : Option ℤ) (b : ℤ) → no_more (lent_variable x low high) g b ≡ no_more x g b
  lent_no_more None b = refl
  lent_no_more (Some a) b = lent_past a b

  pub lent_cut : (b : ℤ) (g : Option ℤ) → cut_off (lent_variable x low high) b g ≡ cut_off x b g
  unfolding cut_off
  lent_cut b None = refl
  lent_cut b (Some a) = rw (lent_past a b)

  -- its range lies inside the declared one
  module _ (r : RangeIn x low high) where
    pub lent_inside : (a : ℤ) → T (in_range (lent_variable x low high) a) → T (in_range x a)
    unfolding lent_variable swaps
    lent_inside a = cases (from_above x) (λ t. T (le_z (cond t low x.low) a && le_z a (cond t x.high high)) → T (in_range x a))
        (λ t h. let k : low ≤ℤ a = le_z_yes (and_left (le_z low a) (le_z a x.high) h) in
        and_both (le_z x.low a) (le_z a x.high) (omega (int, r.from)) (and_right (le_z low a) (le_z a x.high) h))
        (λ t h. let k : a ≤ℤ high = le_z_yes (and_right (le_z x.low a) (le_z a high) h) in
        and_both (le_z x.low a) (le_z a x.high) (and_left (le_z x.low a) (le_z a high) h) (omega (int, r.to)))

    -- and holds every value from low to high
    pub lent_holds : (a : ℤ) → T (le_z low a) → T (le_z a high) → T (in_range (lent_variable x low high) a)
    unfolding lent_variable swaps
    lent_holds a l h = cases (from_above x) (λ t. T (le_z (cond t low x.low) a && le_z a (cond t x.high high)))
        (λ t. and_both (le_z low a) (le_z a x.high) l (omega (int, r.to)))
        (λ t. and_both (le_z x.low a) (le_z a high) (omega (int, r.from)) h)

    -- so its two ends
    pub lent_low_in : T (in_range (lent_variable x low high) low)
    lent_low_in = lent_holds low (omega int) r.ordered.le

    pub lent_far_in : T (in_range (lent_variable x low high) (swaps x high low))
    unfolding swaps
    lent_far_in = cases (from_above x) (λ t. T (in_range (lent_variable x low high) (cond t low high))) (λ t. lent_low_in) (λ t. lent_holds high r.ordered.le (omega int))

-- ---- the program with lent ranges

module _ {P : Program} {low high : Valuation} (f : Fitting P low high) where
  pub lent_narrows : Narrows P (lent P low high)
  lent_narrows = record {
    kind_is = λ v. lent_kind (variable_in P.variables v) (low v) (high v);
    start_is = λ v. lent_start (variable_in P.variables v) (low v) (high v);
    inside = λ v. lent_inside (variable_in P.variables v) (low v) (high v) (f.range v);
  }

  pub lent_within : {m : Valuation} → Within (reckoned P (lent P low high)) m → Within (system P) m
  lent_within = narrows_within lent_narrows

  pub lent_before : {v : ℕ} {a b : ℤ} → AtOrBefore (reckoned P (lent P low high)) v a b → AtOrBefore (system P) v a b
  lent_before {v} {a} {b} h = record { le = rw (lent_past (variable_in P.variables v) (low v) (high v) a b) at h.le }

  pub before_lent : {v : ℕ} {a b : ℤ} → AtOrBefore (system P) v a b → AtOrBefore (reckoned P (lent P low high)) v a b
  before_lent {v} {a} {b} h = record { le = rw (lent_past (variable_in P.variables v) (low v) (high v) a b) h.le }

  -- the low ends lie in their ranges
  pub low_within : Within (reckoned P (lent P low high)) low
  low_within = record { inside = λ v. lent_low_in (variable_in P.variables v) (low v) (high v) (f.range v) }

-- ---- one range inside another

pub record Part (low high low' high' : ℤ) : Type 0 where
  pub from : low ≤ℤ low'
  pub to : high' ≤ℤ high

-- so is every range
pub narrower_parts : (P : Program) {low high low' high' : Valuation} → Fitting P low high → Fitting P low' high' → Narrower P low high low' high'
    → (v : ℕ) → Part (low v) (high v) (low' v) (high' v)
narrower_parts P {low} {high} {low'} {high'} f f' n = declared_or P (λ v. Part (low v) (high v) (low' v) (high' v))
    (λ v h. record {
      from = le_z_yes (and_left (le_z (low v) (low' v)) (le_z (high' v) (high v)) (n v h));
      to = le_z_yes (and_right (le_z (low v) (low' v)) (le_z (high' v) (high v)) (n v h));
    })
    (λ v h e. none v (rw (← e) at (f.range v)) (rw (← e) at (f'.range v)))
  where
    none : (v : ℕ) → RangeIn no_variable (low v) (high v) → RangeIn no_variable (low' v) (high' v) → Part (low v) (high v) (low' v) (high' v)
    none v r r' = record { from = omega int; to = omega int }
