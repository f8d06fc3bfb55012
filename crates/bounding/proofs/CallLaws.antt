-- The call bounds, from a file that was accepted: when it is turned down, and what it writes.
use Rattle.std.specs.Prelude.{Option, Some, None, Result, Ok, Err}
use Prim.Native.Nat.{ℕ, ◌+◌, ◌*◌, ◌/◌, ◌<◌, ◌≤◌}
use mathlib.Core.Path.{◌≡◌, refl, sym, ap, subst, fun_ext, ◌∙◌}
use mathlib.Core.Logic.{inl, inr}
use mathlib.Core.Bool.{Bool, true, false}
use mathlib.Core.List.{List, ◌++◌}
use native.Mathlib.Omega.{arith}
use borrow.Author.Tests.{ltb-true, ltb-false}
use lib.Dec.{ltb}
use lib.IntN.{ℤ, pos, nat_abs}
use lib.ListN.{length, drop, replicate, get_or-eq_default}
use Rattle.format.specs.Limits.{max_number}
use Rattle.format.proofs.Int.{int}
use Rattle.program.specs.Program.{Program, no_variable, variables_at}
use Rattle.program.specs.Reading.{AcceptedAs, Accepts}
use Rattle.program.specs.Readings.{Valuation, valued}
use Rattle.program.specs.Variables.{swaps}
use Rattle.program.specs.declared.Counts.{Counts}
use Rattle.program.specs.declared.Variable.{Variable}
use Rattle.program.proofs.IdleRules.{RangeIn}
use Rattle.program.proofs.Promises.{accepts_promises}
use Rattle.meaning.specs.Calls.{Refuses, bad_call}
use Rattle.meaning.specs.LeastCall.{least_bytes, written}
use Rattle.meaning.proofs.Denials.{is_exact}
use Rattle.meaning.proofs.InRanges.{value_small}
use Rattle.reader.proofs.Published.{reads_accepts, counts_of_is, variables_are}
use Rattle.reduct.specs.Filling.{Filled}
use Rattle.reduct.proofs.AssignedLaws.{one_valuation}
use Rattle.reduct.proofs.Fills.{filled_done, loaded_as, zeros}
use Rattle.lent.specs.Ranges.{low_in, high_in, AllFit}
use Rattle.lent.specs.Lent.{lent, Bounds}
use Rattle.lent.specs.BoundsCall.{range_bytes, turned, BoundsCall, within_bounds, bounded}
use Rattle.lent.proofs.Fits.{Fitting, ranges_fitting, lent_narrows, low_within, lent_within}
use Rattle.lent.proofs.Ends.{ends_model}
use Rattle.lent.proofs.Calls.{all_fit_is, lent_called}
use Rattle.tables.specs.Laid.{OffsetsOf}
use Rattle.meaning.specs.Reduct.{Reckoning}
use Rattle.sided.specs.Sides.{sides_length, side_place}
use Rattle.sided.specs.Reached.{risen}
use Rattle.run.specs.Running.{Underway, SomeWay}
use Rattle.ascent.specs.Ascending.{SidesStart, Climbing, SomeClimbing, ClimbIs}
use Rattle.ascent.proofs.ValueLaws.{start_progress, reached_ended, reached_open}
use Rattle.ends.specs.Ends.{other_end, other_ends, stop_end, stop_ends, FitIs, LentMasks}
use Rattle.ends.specs.Freed.{FitsRanges, AtStops, Freed}
use Rattle.ends.proofs.ScaleLaws.{lent_climbing}
use Rattle.ends.proofs.TaskLaws.{lent_basis}
use Rattle.bounding.specs.Writing.{BoundsWritten, AtOthers, OnTheWay, EndsBounded}
use Rattle.run.specs.declared.NoModel.{NoModel}

-- ---- the ranges as loaded

-- the lists that were loaded are the ranges
module _ (g : List ℕ) (n : ℕ) (e : length g ≡ range_bytes * n) {zs : List ℤ} (ms : List ℤ) (z : (v : ℕ) → valued zs v ≡ pos 0) where
  pub lows_are : Filled (low_in g) (length g / 4) zs ms → valued ms ≡ low_in g
  lows_are f = one_valuation (valued ms) (low_in g) (loaded_as g (λ v. 4 * v) n (λ v l. omega arith) (filled_done (omega arith) f) z)

  pub highs_are : Filled (high_in g) (length g / 4) zs ms → valued ms ≡ high_in g
  highs_are f = one_valuation (valued ms) (high_in g) (loaded_as g (λ v. 4 * v + 2) n (λ v l. omega arith) (filled_done (omega arith) f) z)

-- what the test of the ranges said
pub fit_as : (vs : List Variable) (n : ℕ) {low high low' high' : Valuation} {t : Bool} (u : Bool) → low ≡ low' → high ≡ high' → t ≡ u → FitIs vs low high n t
    → FitIs vs low' high' n u
fit_as vs n u p q e f = rw (p, q, e) at f

-- what the run is asked, and what it writes, in the words of the ranges
pub fits_lists : {s : List ℕ} {low high low' high' : Valuation} → low ≡ low' → high ≡ high' → FitsRanges s low' high' → FitsRanges s low high
fits_lists p q f P x = rw (p, q) (f P x)

pub written_lists : {s b b' : List ℕ} {low high low' high' : Valuation} → low ≡ low' → high ≡ high' → ((P : Program) → Accepts s P → BoundsWritten P low high b b')
    → (P : Program) → Accepts s P → BoundsWritten P low' high' b b'
written_lists p q f P x = rw (p, q) at (f P x)

-- ---- the ends past the last variable

module _ {P : Program} {low high : Valuation} (f : Fitting P low high) (v : ℕ) (h : length P.variables ≤ v) where
  range_past : RangeIn no_variable (low v) (high v)
  range_past = rw (get_or-eq_default P.variables no_variable h) at (f.range v)

  pub low_past : low v ≡ pos 0
  low_past = let r = range_past in omega (int, r.from, r.ordered, r.to)

  pub high_past : high v ≡ pos 0
  high_past = let r = range_past in omega (int, r.from, r.ordered, r.to)

  other_past : pos 0 ≡ other_ends P.variables low high v
  unfolding other_end
  other_past = rw (get_or-eq_default P.variables no_variable h) (sym high_past)

  stop_past : pos 0 ≡ stop_ends P.variables low high v
  unfolding stop_end swaps
  stop_past = rw (get_or-eq_default P.variables no_variable h) (sym high_past)

-- ---- a file that was accepted

module _ {s : List ℕ} {k : Counts} (r : AcceptedAs s k) where
  -- ends that were set for the declared variables over zeros, at every variable
  module _ {low high : Valuation} (fit : FitsRanges s low high) {ms ms' : List ℤ} (z : (v : ℕ) → valued ms v ≡ pos 0) where
    whole : (m : List Variable → Valuation) → Filled (m (variables_at s k.variables)) k.variables ms ms' → (P : Program) → Accepts s P
        → ((v : ℕ) → length P.variables ≤ v → pos 0 ≡ m P.variables v) → (v : ℕ) → valued ms' v ≡ m P.variables v
    whole m f P x past v = go (ltb v k.variables) refl
      where
        go : (t : Bool) → ltb v k.variables ≡ t → valued ms' v ≡ m P.variables v
        go true q = f.below v (ltb-true v k.variables q) ∙ ap (λ (vs : List Variable). m vs v) (sym (variables_are r x))
        go false q =
            let l = ltb-false v k.variables q in
            f.past v l ∙ z v ∙ past v (omega (arith, (counts_of_is r x).variables_are))

    pub others_whole : Filled (other_ends (variables_at s k.variables) low high) k.variables ms ms' → AtOthers s low high ms'
    others_whole f P x = whole (λ vs. other_ends vs low high) f P x (other_past (fit P x))

    pub stops_whole : Filled (stop_ends (variables_at s k.variables) low high) k.variables ms ms' → AtStops s low high ms'
    stops_whole f P x = whole (λ vs. stop_ends vs low high) f P x (stop_past (fit P x))

  -- zeros are the low ends past the last variable
  pub zero_past : {low high : Valuation} → FitsRanges s low high → (m : Valuation) → ((v : ℕ) → m v ≡ pos 0) → (v : ℕ) → k.variables ≤ v → m v ≡ low v
  zero_past fit m z v l =
      let x = reads_accepts r in
      z v ∙ sym (low_past (fit x.meant x.accepts) v (omega (arith, x.variables_are)))

  -- the ends at which others are read and lifts stop
  module _ {low high : Valuation} (fit : FitsRanges s low high) (others stops : List ℤ) (o : AtOthers s low high others) (e : AtStops s low high stops) where
    -- at the start
    begun : {sides : List ℤ} → SidesStart (variables_at s k.variables) k.variables low (valued others) (replicate sides_length (pos 0)) sides
        → (P : Program) → Accepts s P → Freed P low high 0 sides
    begun h P x =
        let n = (counts_of_is r x).variables_are in
        let q = start_progress r x (lent_narrows (fit P x)) (low_within (fit P x)) (λ v l f. zeros sides_length (side_place f v) ∙ sym (low_past (fit P x) v (omega arith)))
        (λ v l. o P x v ∙ sym (other_past (fit P x) v (omega arith)) ∙ sym (low_past (fit P x) v (omega arith))) h in
        record { sided = rw (sym (fun_ext (o P x))) q.0; progress = q.1; free = λ i l. absurd (omega arith) }

    -- the heads of undecided rules have been given their stops
    module _ {sides sides⁺ : List ℤ} (h : SidesStart (variables_at s k.variables) k.variables low (valued others) (replicate sides_length (pos 0)) sides)
        (g : (P : Program) → Accepts s P → Freed P low high 0 sides → Freed P low high (length P.rules) sides⁺) where
      climbs : (P : Program) → Accepts s P → Climbing P (lent P low high) low (other_ends P.variables low high) stops true sides⁺
      climbs P x = lent_climbing x low high (fit P x) stops (e P x) (g P x (begun h P x))

      pub some_climbs : SomeClimbing s stops true sides⁺
      some_climbs =
          let x = reads_accepts r in
          let P = x.meant in
          record {
            program = P;
            reckoning = lent P low high;
            assigned = low;
            others = other_ends P.variables low high;
            accepts = x.accepts;
            climbing = climbs P x.accepts;
          }

      -- what climbing ended with, in the values that were written
      module _ (sides⁺⁺ : List ℤ) (b : Option (Result (Unit {0}) NoModel)) {m₀ m : List ℤ}
          (c : (P : Program) (R : Reckoning) (θ others : Valuation) → Accepts s P → Climbing P R θ others stops true sides⁺ → ClimbIs P R θ sides⁺⁺ b)
          (z : (v : ℕ) → k.variables ≤ v → valued m₀ v ≡ low v) (f : Filled (risen (variables_at s k.variables) sides⁺⁺) k.variables m₀ m) where
        ends : (P : Program) → Accepts s P → ClimbIs P (lent P low high) low sides⁺⁺ b
        ends P x = c P (lent P low high) low (other_ends P.variables low high) x (climbs P x)

        pub climbed_ended : {a : Result (Unit {0}) NoModel} → b ≡ Some a → EndsBounded s low high (valued m) a
        climbed_ended q P x = reached_ended r x (lent_narrows (fit P x)) low sides⁺⁺ z f (ends P x) q

        pub climbed_open : b ≡ None → OnTheWay s low high (valued m)
        climbed_open q P x = reached_open r x (lent_narrows (fit P x)) low sides⁺⁺ z f (ends P x) q

    -- what is left open
    module _ {os ms : List ℕ} (t : OffsetsOf s os) (masks : (P : Program) → Accepts s P → LentMasks P low high (length P.rules) ms) (m : List ℤ)
        (w : OnTheWay s low high (valued m)) where
      pub underway : (P : Program) → Accepts s P → Underway s P (lent P low high) low os ms others stops true m
      underway P x = record { basis = lent_basis x t low high (fit P x) ms (masks P x) others stops (o P x) (e P x); progress = w P x }

      pub some_way : SomeWay s os ms others stops true m
      some_way =
          let x = reads_accepts r in
          record { program = x.meant; reckoning = lent x.meant low high; assigned = low; way = underway x.meant x.accepts }

  -- the run ends in the bounds, for there is a model
  pub ends_bounds : {low high : Valuation} → FitsRanges s low high → (m : Valuation) (e : Result (Unit {0}) NoModel) → EndsBounded s low high m e
      → (P : Program) → Accepts s P → Bounds P low high m
  ends_bounds fit m (Ok _) h P x = h P x
  ends_bounds fit m (Err _) h P x = absurd (h P x _ (ends_model (accepts_promises x) (fit P x)))

  pub bounds_small : {low high : Valuation} → FitsRanges s low high → (m : Valuation) → ((P : Program) → Accepts s P → Bounds P low high m) → (v : ℕ) → v < k.variables
      → nat_abs (m v) ≤ max_number
  bounds_small fit m h v l =
      let x = reads_accepts r in
      value_small (accepts_promises x.accepts) (lent_within (fit x.meant x.accepts) (h x.meant x.accepts).model.within) v

  pub bounds_written : {low high : Valuation} (m : Valuation) → ((P : Program) → Accepts s P → Bounds P low high m) → (b b' : List ℕ)
      → b' ≡ written m k.variables ++ drop (2 * k.variables) b → (P : Program) → Accepts s P → BoundsWritten P low high b b'
  bounds_written m h b b' e P x = record {
    model = m;
    bounds = h P x;
    bytes = e ∙ ap (λ (n : ℕ). written m n ++ drop (2 * n) b) (sym (counts_of_is r x).variables_are);
  }

  -- ---- refusals, and the answer

  module _ (g b : List ℕ) where
    abbrev meant : Program
    meant = (reads_accepts r).meant

    many : length meant.variables ≡ k.variables
    many = (reads_accepts r).variables_are

    pub wrong_length_is : (length g ≡ range_bytes * k.variables → ⊥) → Refuses (turned g b) s 14 0
    wrong_length_is n = bad_call (reads_accepts r).accepts (inl (refl, ((λ e. n (let q = many in omega arith)), refl)))

    module _ (e : length g ≡ range_bytes * k.variables) where
      long : length g ≡ range_bytes * length meant.variables
      long = let q = many in omega arith

      -- the test of the ranges, for the program
      fit : FitIs (variables_at s k.variables) (low_in g) (high_in g) k.variables true → (P : Program) → Accepts s P → AllFit P (low_in g) (high_in g)
      fit f P x v l = rw (variables_are r x) (f v (omega (arith, (counts_of_is r x).variables_are)))

      pub fits_file : FitIs (variables_at s k.variables) (low_in g) (high_in g) k.variables true → FitsRanges s (low_in g) (high_in g)
      fits_file f P x = ranges_fitting P g (let q = (counts_of_is r x).variables_are in omega arith) (fit f P x)

      pub wrong_ranges : FitIs (variables_at s k.variables) (low_in g) (high_in g) k.variables false → Refuses (turned g b) s 20 0
      wrong_ranges f = bad_call (reads_accepts r).accepts
          (inr (
            is_exact range_bytes g meant long,
            inl (refl, (record { variable = f.0; declared = omega (arith, f.1, many); unfit = rw (variables_are r (reads_accepts r).accepts) f.2 }, refl)),
          ))

      module _ (f : FitIs (variables_at s k.variables) (low_in g) (high_in g) k.variables true) where
        pub wrong_buffer : length b < least_bytes * k.variables → Refuses (turned g b) s 15 0
        wrong_buffer h = bad_call (reads_accepts r).accepts
            (inr (is_exact range_bytes g meant long, inr (λ at u. all_fit_is meant (low_in g) (high_in g) (fit f meant (reads_accepts r).accepts) u.0, inl (refl, (rw many h, refl)))))

        pub right_call : least_bytes * k.variables ≤ length b → (b' : List ℕ) → ((P : Program) → Accepts s P → BoundsWritten P (low_in g) (high_in g) b b')
            → BoundsCall s g b bounded b'
        right_call h b' w =
            let x = (reads_accepts r).accepts in
            let y = w meant x in
            subst (BoundsCall s g b bounded) (sym y.bytes) (within_bounds (lent_called g b x long (fit f meant x) (let q = many in omega arith)) y.bounds)
