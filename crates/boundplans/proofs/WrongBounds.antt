-- Wrong ways to answer bounds, each refuted by what it would answer or leave for a small file: the call has one answer and leaves the buffer in one way, and
-- they are others.
use Prim.Native.Nat.{ℕ, ◌*◌, ◌≤◌}
use mathlib.Core.Path.{◌≡◌, refl, sym, ap, subst, ◌∙◌}
use mathlib.Core.Bool.{Bool, true, false, ◌&&◌}
use mathlib.Core.List.{List, [], ◌∷◌, ◌++◌}
use native.Mathlib.Omega.{arith}
use lib.Dec.{ltb, lit<, lit≤}
use lib.IntN.{ℤ, pos}
use lib.ListN.{length, get_or, drop}
use lib.Signed.{le_z}
use borrow.Author.Tests.{ltb-true, ltb-false}
use Rattle.format.proofs.Int.{int}
use Rattle.program.proofs.Conditions.{never}
use Rattle.program.proofs.Tests.{is_true, and_both}
use Rattle.meaning.specs.Stable.{assigned}
use Rattle.lent.specs.BoundsCall.{Answer, refusal, bounded, BoundsCall}
use Rattle.lent.proofs.Calls.{bounds_call_unique}
use Rattle.plans.specs.Starred.{small}
use Rattle.plans.specs.IdlePlans.{below}
use Rattle.boundplans.specs.Samples.{Written, Refused, range, all, alone, passed_on, kept_on, beyond_below, beyond_above, circle_below, circle_above, ends, literal}
use Rattle.boundplans.specs.Samples.{falling, across, sized, idle_below, idle_above}
use Rattle.boundplans.proofs.Samples.{samples}

-- ---- one answer, and one buffer afterwards

-- which case an answer is, and a refusal's number
abbrev pub word : Answer → ℕ
word (refusal n at) = 0
word bounded = 1

abbrev pub number : Answer → ℕ
number (refusal n at) = n
number bounded = 0

-- no call with the file s and the ranges g that is not turned down leaves variable v at z; none is turned down with the number n; every one is turned down
abbrev pub NeverAt : List ℕ → List ℕ → ℕ → ℤ → Type 0
NeverAt s g v z = (b b' : List ℕ) → BoundsCall s g b bounded b' → assigned b' v ≡ z → ⊥

abbrev pub NeverRefused : List ℕ → List ℕ → ℕ → Type 0
NeverRefused s g n = (b b' : List ℕ) (at : ℕ) → BoundsCall s g b (refusal n at) b' → ⊥

abbrev pub NeverBounded : List ℕ → List ℕ → Type 0
NeverBounded s g = (b b' : List ℕ) → BoundsCall s g b bounded b' → ⊥

abbrev same : ℤ → ℤ → Bool
same a b = le_z a b && le_z b a

alike : (a : ℤ) → same a a ≡ true
alike a = is_true (same a a) (and_both (le_z a a) (le_z a a) (omega int) (omega int))

module _ {s g o : List ℕ} {n : ℕ} (w : Written s g n o) where
  -- where the buffer is shorter than what is written the call is turned down
  room : {b b' : List ℕ} → BoundsCall s g b bounded b' → 2 * n ≤ length b
  room {b} q = go (ltb (length b) (2 * n)) refl
    where
      go : (t : Bool) → ltb (length b) (2 * n) ≡ t → 2 * n ≤ length b
      go true e = let f = ap word (bounds_call_unique q (w.roomless b (ltb-true (length b) (2 * n) e))).0 in absurd (omega arith)
      go false e = ltb-false (length b) (2 * n) e

  -- what is written has another value there
  differs : (v : ℕ) (z : ℤ) → ((l : List ℕ) → same (assigned (o ++ l) v) z ≡ false) → NeverAt s g v z
  differs v z other b b' q e = never (alike z) (subst (λ y. same y z ≡ false) (sym is ∙ e) (other (drop (2 * n) b)))
    where
      is : assigned b' v ≡ assigned (o ++ drop (2 * n) b) v
      is = ap (λ l. assigned l v) (bounds_call_unique q (w.call b (room q))).1

  -- it is not turned down but for its buffer
  not_refused : (m : ℕ) → (m ≡ 15 → ⊥) → NeverRefused s g m
  not_refused m f b b' at q = go (ltb (length b) (2 * n)) refl
    where
      go : (t : Bool) → ltb (length b) (2 * n) ≡ t → ⊥
      go true e = f (ap number (bounds_call_unique q (w.roomless b (ltb-true (length b) (2 * n) e))).0)
      go false e = let z = ap word (bounds_call_unique q (w.call b (ltb-false (length b) (2 * n) e))).0 in omega arith

module _ {s g : List ℕ} {n at : ℕ} (w : Refused s g n at) where
  other_number : (m : ℕ) → (m ≡ n → ⊥) → NeverRefused s g m
  other_number m f b b' p q = f (ap number (bounds_call_unique q (w b)).0)

  never_bounded : NeverBounded s g
  never_bounded b b' q = let z = ap word (bounds_call_unique q (w b)).0 in omega arith

-- ---- where the bounds start

-- one that starts at the lent range's end: b takes it over
pub not_started_inside : NeverAt (passed_on 1) (range 4 10 (all [])) 1 (pos 4)
not_started_inside = differs samples.starts_below 1 (pos 4) (λ l. refl)

pub not_started_inside_above : NeverAt (passed_on 2) (range 0 6 (all [])) 1 (pos 6)
not_started_inside_above = differs samples.starts_above 1 (pos 6) (λ l. refl)

-- one that lifts a bound into the lent range, though no rule does
pub not_lifted_by_nothing : NeverAt (passed_on 1) (range 4 10 (all [])) 0 (pos 4)
not_lifted_by_nothing = differs samples.starts_below 0 (pos 4) (λ l. refl)

pub not_lifted_by_nothing_above : NeverAt (passed_on 2) (range 0 6 (all [])) 0 (pos 6)
not_lifted_by_nothing_above = differs samples.starts_above 0 (pos 6) (λ l. refl)

-- ---- where a lift stops

-- one that stops at the declared far end
pub not_declared_far : NeverAt beyond_below (range 0 5 []) 0 (pos 10)
not_declared_far = differs samples.stops_below 0 (pos 10) (λ l. refl)

pub not_declared_far_above : NeverAt beyond_above (range 8 15 []) 0 (pos 5)
not_declared_far_above = differs samples.stops_above 0 (pos 5) (λ l. refl)

-- one that stops nowhere
pub not_past_the_far_end : NeverAt beyond_below (range 0 5 []) 0 (pos 20)
not_past_the_far_end = differs samples.stops_below 0 (pos 20) (λ l. refl)

pub not_past_the_far_end_above : NeverAt beyond_above (range 8 15 []) 0 (pos 0)
not_past_the_far_end_above = differs samples.stops_above 0 (pos 0) (λ l. refl)

-- one that leaves a lift out where it goes past the far end
pub not_left_out : NeverAt beyond_below (range 0 5 []) 0 (pos 0)
not_left_out = differs samples.stops_below 0 (pos 0) (λ l. refl)

pub not_left_out_above : NeverAt beyond_above (range 8 15 []) 0 (pos 15)
not_left_out_above = differs samples.stops_above 0 (pos 15) (λ l. refl)

-- one that looks at each rule once
pub not_one_round : NeverAt circle_below (range 0 5 (range 0 7 [])) 1 (pos 1)
not_one_round = differs samples.circles_below 1 (pos 1) (λ l. refl)

pub not_one_round_above : NeverAt circle_above (range 5 10 (range 3 10 [])) 1 (pos 9)
not_one_round_above = differs samples.circles_above 1 (pos 9) (λ l. refl)

-- one that lifts a circle to the far end of each variable, where the bound of b is that of a
pub not_each_far_end : NeverAt circle_below (range 0 5 (range 0 7 [])) 1 (pos 7)
not_each_far_end = differs samples.circles_below 1 (pos 7) (λ l. refl)

pub not_each_far_end_above : NeverAt circle_above (range 5 10 (range 3 10 [])) 1 (pos 3)
not_each_far_end_above = differs samples.circles_above 1 (pos 3) (λ l. refl)

-- ---- kept positions

-- one that reads a kept position at its lent far end, and not at the bound so far
pub not_kept_far : NeverAt (kept_on 1 3) (range 0 8 (all [])) 1 (pos 8)
not_kept_far = differs samples.keeps_below 1 (pos 8) (λ l. refl)

pub not_kept_far_above : NeverAt (kept_on 2 7) (range 2 10 (all [])) 1 (pos 2)
not_kept_far_above = differs samples.keeps_above 1 (pos 2) (λ l. refl)

-- one that reads it at the other end, and does not follow the bound
pub not_kept_near : NeverAt (kept_on 1 3) (range 0 8 (all [])) 1 (pos 0)
not_kept_near = differs samples.keeps_below 1 (pos 0) (λ l. refl)

pub not_kept_near_above : NeverAt (kept_on 2 7) (range 2 10 (all [])) 1 (pos 10)
not_kept_near_above = differs samples.keeps_above 1 (pos 10) (λ l. refl)

-- ---- standard variables

-- one that reads a rising standard variable at its low
pub not_rising_low : NeverAt (ends 1) (range 2 7 (all (all []))) 1 (pos 2)
not_rising_low = differs samples.ends_below 1 (pos 2) (λ l. refl)

-- one that reads a falling one at its high
pub not_falling_high : NeverAt (ends 1) (range 2 7 (all (all []))) 2 (pos 3)
not_falling_high = differs samples.ends_below 2 (pos 3) (λ l. refl)

-- one whose plain terms do not swap under a head of kind 2: what is added falls there, and what is subtracted rises
pub not_plain_unswapped : NeverAt (ends 2) (range 2 7 (all (all []))) 1 (pos 7)
not_plain_unswapped = differs samples.ends_above 1 (pos 7) (λ l. refl)

pub not_subtracted_unswapped : NeverAt (ends 2) (range 2 7 (all (all []))) 2 (pos 8)
not_subtracted_unswapped = differs samples.ends_above 2 (pos 8) (λ l. refl)

-- one that writes a standard variable's high
pub not_standard_high : NeverAt (ends 1) (range 2 7 (all (all []))) 0 (pos 7)
not_standard_high = differs samples.ends_below 0 (pos 7) (λ l. refl)

pub not_standard_high_above : NeverAt (ends 2) (range 2 7 (all (all []))) 0 (pos 7)
not_standard_high_above = differs samples.ends_above 0 (pos 7) (λ l. refl)

-- one that writes a standard variable's declared low
pub not_standard_declared : NeverAt (ends 1) (range 2 7 (all (all []))) 0 (pos 0)
not_standard_declared = differs samples.ends_below 0 (pos 0) (λ l. refl)

-- one that reads a literal at the end where it holds least: s ≥ 3 at the low, s < 3 at the high
pub not_from_low : NeverAt (literal 1 1) (range 1 4 (all [])) 1 (pos 0)
not_from_low = differs samples.from_below 1 (pos 0) (λ l. refl)

pub not_under_high : NeverAt (literal 1 2) (range 1 4 (all [])) 1 (pos 0)
not_under_high = differs samples.under_below 1 (pos 0) (λ l. refl)

-- one whose literals swap under a head of kind 2
pub not_from_swapped : NeverAt (literal 2 1) (range 1 4 (all [])) 1 (pos 10)
not_from_swapped = differs samples.from_above_is 1 (pos 10) (λ l. refl)

pub not_under_swapped : NeverAt (literal 2 2) (range 1 4 (all [])) 1 (pos 10)
not_under_swapped = differs samples.under_above 1 (pos 10) (λ l. refl)

-- ---- founded variables that are not kept

-- one that reads a falling place at the end that demands least
pub not_falling_least : NeverAt (falling 1) (range 3 6 (all [])) 1 (pos 4)
not_falling_least = differs samples.falls_below 1 (pos 4) (λ l. refl)

pub not_falling_least_above : NeverAt (falling 2) (range 4 7 (all [])) 1 (pos 6)
not_falling_least_above = differs samples.falls_above 1 (pos 6) (λ l. refl)

-- one that reads it at its bound
pub not_falling_bound : NeverAt (falling 1) (range 3 6 (all [])) 1 (pos 10)
not_falling_bound = differs samples.falls_below 1 (pos 10) (λ l. refl)

pub not_falling_bound_above : NeverAt (falling 2) (range 4 7 (all [])) 1 (pos 0)
not_falling_bound_above = differs samples.falls_above 1 (pos 0) (λ l. refl)

-- one that keeps a variable of the other kind, or reads it at the end that demands least
pub not_across_bound : NeverAt (across 2 1) (range 3 6 (all [])) 1 (pos 10)
not_across_bound = differs samples.above_to_below 1 (pos 10) (λ l. refl)

pub not_across_least : NeverAt (across 2 1) (range 3 6 (all [])) 1 (pos 3)
not_across_least = differs samples.above_to_below 1 (pos 3) (λ l. refl)

pub not_across_bound_above : NeverAt (across 1 2) (range 3 6 (all [])) 1 (pos 0)
not_across_bound_above = differs samples.below_to_above 1 (pos 0) (λ l. refl)

pub not_across_least_above : NeverAt (across 1 2) (range 3 6 (all [])) 1 (pos 6)
not_across_least_above = differs samples.below_to_above 1 (pos 6) (λ l. refl)

-- ---- mixed variables

-- one that lets the head reach its far end though the mixed variable is single
pub not_single_far : NeverAt (sized 0 1) (below 3 (below 3 (range 0 9 []))) 1 (pos 9)
not_single_far = differs samples.single_below 1 (pos 9) (λ l. refl)

pub not_single_far_above : NeverAt (sized 0 2) (below 3 (below 3 (range 1 10 []))) 1 (pos 1)
not_single_far_above = differs samples.single_above 1 (pos 1) (λ l. refl)

-- one that reads a founded mixed variable at its bound, -5 or 5, and not at its single value
pub not_single_bound : NeverAt (sized 1 1) (range 3 3 (all [])) 1 (pos 5)
not_single_bound = differs samples.founded_single_below 1 (pos 5) (λ l. refl)

pub not_single_bound_above : NeverAt (sized 2 2) (range 3 3 (all [])) 1 (pos 5)
not_single_bound_above = differs samples.founded_single_above 1 (pos 5) (λ l. refl)

-- one that reads a mixed variable that is not single at its low
pub not_mixed_low : NeverAt (sized 0 1) (below 4 (small 2 (range 0 9 []))) 1 (pos 4)
not_mixed_low = differs samples.mixed_below 1 (pos 4) (λ l. refl)

pub not_mixed_low_above : NeverAt (sized 0 2) (below 4 (small 3 (range 1 10 []))) 1 (pos 4)
not_mixed_low_above = differs samples.mixed_above 1 (pos 4) (λ l. refl)

-- one that reads it at its high
pub not_mixed_high : NeverAt (sized 0 1) (below 4 (small 2 (range 0 9 []))) 1 (pos 2)
not_mixed_high = differs samples.mixed_below 1 (pos 2) (λ l. refl)

pub not_mixed_high_above : NeverAt (sized 0 2) (below 4 (small 3 (range 1 10 []))) 1 (pos 3)
not_mixed_high_above = differs samples.mixed_above 1 (pos 3) (λ l. refl)

-- one that asks by the lent range, and not by the declared one, whether a variable is mixed
pub not_mixed_by_lent : NeverAt (sized 0 1) (range 1 5 (range 0 9 [])) 1 (pos 5)
not_mixed_by_lent = differs samples.one_sign_below 1 (pos 5) (λ l. refl)

pub not_mixed_by_lent_above : NeverAt (sized 0 2) (range 2 5 (range 1 10 [])) 1 (pos 2)
not_mixed_by_lent_above = differs samples.one_sign_above 1 (pos 2) (λ l. refl)

-- one that asks first whether the rule of a mixed variable is idle, and leaves it out
pub not_idle_first : NeverAt idle_below (below 4 (small 2 (range 5 12 []))) 1 (pos 5)
not_idle_first = differs samples.idle_mixed_below 1 (pos 5) (λ l. refl)

pub not_idle_first_above : NeverAt idle_above (below 4 (small 2 (range 1 10 []))) 1 (pos 10)
not_idle_first_above = differs samples.idle_mixed_above 1 (pos 10) (λ l. refl)

-- ---- refusals

-- one that asks for 14 before the file's own refusals
pub not_14_before_file : NeverRefused (9 ∷ []) [] 14
not_14_before_file = other_number (samples.own_refusal []) 14 (λ e. omega arith)

-- one that asks for 20 before 14: the range is empty, and a byte follows it
pub not_20_before_14 : NeverRefused alone (range 4 3 (0 ∷ [])) 20
not_20_before_14 = other_number samples.ranges_long 20 (λ e. omega arith)

-- one that asks for 15 before 14, or before 20
pub not_15_before_14 : NeverRefused alone [] 15
not_15_before_14 = other_number samples.ranges_missing 15 (λ e. omega arith)

pub not_15_before_20 : NeverRefused alone (range 4 3 []) 15
not_15_before_20 = other_number samples.empty_range 15 (λ e. omega arith)

-- one that goes on with an empty range
pub not_empty_bounded : NeverBounded alone (range 4 3 [])
not_empty_bounded = never_bounded samples.empty_range

-- one that looks at one end alone of the declared range
pub not_low_alone : NeverBounded alone (range 0 11 [])
not_low_alone = never_bounded samples.leaves_above

pub not_high_alone : NeverBounded alone (below 1 (small 5 []))
not_high_alone = never_bounded samples.leaves_below

-- one that looks at the first range alone
pub not_first_alone : NeverBounded (passed_on 1) (all (range 0 11 []))
not_first_alone = never_bounded samples.second_leaves

-- one that takes a single range for an empty one
pub not_20_for_single : NeverRefused alone (range 3 3 []) 20
not_20_for_single = not_refused samples.single_fits 20 (λ e. omega arith)

-- one that turns a call down since a bound stays before its range
pub not_20_before_range : NeverRefused (passed_on 1) (range 4 10 (all [])) 20
not_20_before_range = not_refused samples.starts_below 20 (λ e. omega arith)

-- one that writes though it turns the call down
pub not_written_on_20 : {r : Answer} → BoundsCall alone (range 4 3 []) (9 ∷ 9 ∷ []) r (0 ∷ 9 ∷ []) → ⊥
not_written_on_20 q = let e : ◌≡◌ {A = ℕ} 0 9 = ap (λ (l : List ℕ). get_or l 0 0) (bounds_call_unique q (samples.empty_range (9 ∷ 9 ∷ []))).1 in omega arith

pub not_written_on_15 : {r : Answer} → BoundsCall alone (range 3 3 []) (9 ∷ []) r (0 ∷ []) → ⊥
not_written_on_15 q = let e : ◌≡◌ {A = ℕ} 0 9 = ap (λ (l : List ℕ). get_or l 0 0) (bounds_call_unique q (samples.single_fits.roomless (9 ∷ []) (lit< tt))).1 in omega arith

-- one that writes a byte after the bounds
pub not_past_the_bounds : BoundsCall alone (range 3 3 []) (9 ∷ 9 ∷ 9 ∷ []) bounded (0 ∷ 0 ∷ 0 ∷ []) → ⊥
not_past_the_bounds q = let e : ◌≡◌ {A = ℕ} 0 9 = ap (λ (l : List ℕ). get_or l 2 0) (bounds_call_unique q (samples.single_fits.call (9 ∷ 9 ∷ 9 ∷ []) (lit≤ tt))).1 in omega arith
