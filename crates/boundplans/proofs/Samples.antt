-- Worked examples of bounds, computed from the bytes of their files and ranges.
use Prim.Native.Nat.{ℕ, ◌*◌, ◌<◌, ◌≤◌}
use mathlib.Core.Path.{◌≡◌, refl, subst}
use mathlib.Core.Bool.{Bool, false, not}
use mathlib.Core.Logic.{inl, inr}
use mathlib.Core.List.{List, [], ◌++◌}
use native.Mathlib.Omega.{arith}
use borrow.Author.Tests.{not-false}
use lib.Dec.{lit<, lit≤}
use lib.IntN.{ℤ}
use lib.ListN.{length, drop}
use Rattle.format.specs.Numbers.{bytes_of}
use Rattle.program.specs.Tables.{any_below}
use Rattle.program.specs.Program.{Program, program, variable_in}
use Rattle.program.specs.Reading.{Accepts}
use Rattle.program.specs.Readings.{Valuation, valued}
use Rattle.program.specs.Variables.{cut_off}
use Rattle.program.proofs.Conditions.{none_below}
use Rattle.program.proofs.Examples.{cut_header}
use Rattle.program.proofs.Promises.{accepts_promises}
use Rattle.meaning.specs.Calls.{bad_file, bad_call}
use Rattle.meaning.specs.LeastCall.{written}
use Rattle.meaning.specs.Search.{found, search_in}
use Rattle.meaning.proofs.Denials.{is_exact}
use Rattle.meaning.proofs.Search.{Right, searched_right}
use Rattle.lent.specs.Ranges.{low_in, high_in, fits, AllFit}
use Rattle.lent.specs.Lent.{lent_variable, undecided, lent_gives, lent, Bounds}
use Rattle.lent.specs.BoundsCall.{bounded, BoundsCall, range_bytes, turned_down, within_bounds}
use Rattle.lent.proofs.Fits.{Fitting, lent_narrows, low_within, ranges_fitting}
use Rattle.lent.proofs.LentLaws.{lent_laws}
use Rattle.lent.proofs.Calls.{all_fit_is, lent_called}
use Rattle.plans.proofs.Starred as plans
use Rattle.plans.proofs.Starred.{read}
use Rattle.boundplans.specs.Samples.{Written, Refused, Samples, alone, passed_on, kept_on, beyond_below, beyond_above, circle_below, circle_above, ends, literal}
use Rattle.boundplans.specs.Samples.{falling, across, sized, idle_below, idle_above}

-- some range does not fit
unfoldable unfit_in : Program → Valuation → Valuation → Bool
unfit_in P low high = any_below (length P.variables) (λ v. not (fits (variable_in P.variables v) (low v) (high v)))

fit_in : (P : Program) (low high : Valuation) → unfit_in P low high ≡ false → AllFit P low high
unfolding unfit_in
fit_in P low high e v h = not-false (fits (variable_in P.variables v) (low v) (high v)) (none_below (length P.variables) _ e v h)

-- unfolding this unfolds what a file with lent ranges means
unfoldable computes : Unit {0}
unfolding plans.computes cut_off fits lent_variable undecided lent_gives written bytes_of unfit_in
computes = tt

-- a file of n variables that means P, and ranges of their length
module _ {s : List ℕ} {P : Program} (x : Accepts s P) (g : List ℕ) {n : ℕ} (count : length P.variables ≡ n) (long : length g ≡ 4 * n) where
  exactly : length g ≡ 4 * length P.variables
  exactly = omega arith

  module _ (fit : unfit_in P (low_in g) (high_in g) ≡ false) where
    all_fit : AllFit P (low_in g) (high_in g)
    all_fit = fit_in P (low_in g) (high_in g) fit

    fitting : Fitting P (low_in g) (high_in g)
    fitting = ranges_fitting P g exactly all_fit

    -- a search that ends in m has found the bounds
    search_bounds : (k : ℕ) (m : List ℤ) → search_in k P (lent P (low_in g) (high_in g)) (low_in g) ≡ found m → Bounds P (low_in g) (high_in g) (valued m)
    search_bounds k m e =
        let p = accepts_promises x in
        subst (λ o. Right P (lent P (low_in g) (high_in g)) (low_in g) o) e (searched_right p (lent_laws p fitting) (lent_narrows fitting) (low_within fitting) k)

    written_by : (k : ℕ) (m : List ℤ) {o : List ℕ} → search_in k P (lent P (low_in g) (high_in g)) (low_in g) ≡ found m → written (valued m) n ≡ o → Written s g n o
    written_by k m {o} e w = record {
      call = λ b h.
          subst (λ l. BoundsCall s g b bounded (l ++ drop (2 * n) b)) w
          (subst (λ c. BoundsCall s g b bounded (written (valued m) c ++ drop (2 * c) b)) count
          (within_bounds (lent_called g b x exactly all_fit (omega arith)) (search_bounds k m e)));
      roomless = λ b h. turned_down (bad_call x
          (inr (is_exact range_bytes g P exactly, inr (λ at u. all_fit_is P (low_in g) (high_in g) all_fit u.0, inl (refl, (omega arith, refl))))));
    }

  unfit_by : (v : ℕ) → v < n → fits (variable_in P.variables v) (low_in g v) (high_in g v) ≡ false → Refused s g 20 0
  unfit_by v h e b = turned_down (bad_call x (inr (is_exact range_bytes g P exactly, inl (refl, (record { variable = v; declared = omega arith; unfit = e }, refl)))))

-- ranges of another length
other_length : {s : List ℕ} {P : Program} → Accepts s P → (g : List ℕ) → (length g ≡ 4 * length P.variables → ⊥) → Refused s g 14 0
other_length x g f b = turned_down (bad_call x (inl (refl, (f, refl))))

-- ---- the samples

alone_read : Accepts alone (program alone 1)
unfolding computes
alone_read = read alone 1 (lit≤ tt) refl (lit≤ tt) refl

pub samples : Samples
unfolding computes
samples = record {
  empty = written_by (read [] 0 (lit≤ tt) refl (lit≤ tt) refl) _ refl refl refl 1 _ refl refl;
  starts_below = written_by (read (passed_on 1) 3 (lit≤ tt) refl (lit≤ tt) refl) _ refl refl refl 9 _ refl refl;
  starts_above = written_by (read (passed_on 2) 3 (lit≤ tt) refl (lit≤ tt) refl) _ refl refl refl 9 _ refl refl;
  stops_below = written_by (read beyond_below 2 (lit≤ tt) refl (lit≤ tt) refl) _ refl refl refl 9 _ refl refl;
  stops_above = written_by (read beyond_above 2 (lit≤ tt) refl (lit≤ tt) refl) _ refl refl refl 9 _ refl refl;
  circles_below = written_by (read circle_below 4 (lit≤ tt) refl (lit≤ tt) refl) _ refl refl refl 16 _ refl refl;
  circles_above = written_by (read circle_above 4 (lit≤ tt) refl (lit≤ tt) refl) _ refl refl refl 16 _ refl refl;
  keeps_below = written_by (read (kept_on 1 3) 4 (lit≤ tt) refl (lit≤ tt) refl) _ refl refl refl 9 _ refl refl;
  keeps_above = written_by (read (kept_on 2 7) 4 (lit≤ tt) refl (lit≤ tt) refl) _ refl refl refl 9 _ refl refl;
  ends_below = written_by (read (ends 1) 5 (lit≤ tt) refl (lit≤ tt) refl) _ refl refl refl 9 _ refl refl;
  ends_above = written_by (read (ends 2) 5 (lit≤ tt) refl (lit≤ tt) refl) _ refl refl refl 9 _ refl refl;
  from_below = written_by (read (literal 1 1) 3 (lit≤ tt) refl (lit≤ tt) refl) _ refl refl refl 9 _ refl refl;
  from_above_is = written_by (read (literal 2 1) 3 (lit≤ tt) refl (lit≤ tt) refl) _ refl refl refl 9 _ refl refl;
  under_below = written_by (read (literal 1 2) 3 (lit≤ tt) refl (lit≤ tt) refl) _ refl refl refl 9 _ refl refl;
  under_above = written_by (read (literal 2 2) 3 (lit≤ tt) refl (lit≤ tt) refl) _ refl refl refl 9 _ refl refl;
  falls_below = written_by (read (falling 1) 3 (lit≤ tt) refl (lit≤ tt) refl) _ refl refl refl 9 _ refl refl;
  falls_above = written_by (read (falling 2) 3 (lit≤ tt) refl (lit≤ tt) refl) _ refl refl refl 9 _ refl refl;
  above_to_below = written_by (read (across 2 1) 3 (lit≤ tt) refl (lit≤ tt) refl) _ refl refl refl 9 _ refl refl;
  below_to_above = written_by (read (across 1 2) 3 (lit≤ tt) refl (lit≤ tt) refl) _ refl refl refl 9 _ refl refl;
  single_below = written_by (read (sized 0 1) 3 (lit≤ tt) refl (lit≤ tt) refl) _ refl refl refl 9 _ refl refl;
  single_above = written_by (read (sized 0 2) 3 (lit≤ tt) refl (lit≤ tt) refl) _ refl refl refl 9 _ refl refl;
  founded_single_below = written_by (read (sized 1 1) 3 (lit≤ tt) refl (lit≤ tt) refl) _ refl refl refl 9 _ refl refl;
  founded_single_above = written_by (read (sized 2 2) 3 (lit≤ tt) refl (lit≤ tt) refl) _ refl refl refl 9 _ refl refl;
  mixed_below = written_by (read (sized 0 1) 3 (lit≤ tt) refl (lit≤ tt) refl) _ refl refl refl 9 _ refl refl;
  mixed_above = written_by (read (sized 0 2) 3 (lit≤ tt) refl (lit≤ tt) refl) _ refl refl refl 9 _ refl refl;
  one_sign_below = written_by (read (sized 0 1) 3 (lit≤ tt) refl (lit≤ tt) refl) _ refl refl refl 9 _ refl refl;
  one_sign_above = written_by (read (sized 0 2) 3 (lit≤ tt) refl (lit≤ tt) refl) _ refl refl refl 9 _ refl refl;
  idle_mixed_below = written_by (read idle_below 3 (lit≤ tt) refl (lit≤ tt) refl) _ refl refl refl 9 _ refl refl;
  idle_mixed_above = written_by (read idle_above 3 (lit≤ tt) refl (lit≤ tt) refl) _ refl refl refl 9 _ refl refl;
  single_fits = written_by alone_read _ refl refl refl 9 _ refl refl;
  own_refusal = λ g b. turned_down (bad_file cut_header);
  ranges_missing = other_length alone_read _ (λ e. omega arith);
  ranges_long = other_length alone_read _ (λ e. omega arith);
  empty_range = unfit_by alone_read _ refl refl 0 (lit< tt) refl;
  leaves_above = unfit_by alone_read _ refl refl 0 (lit< tt) refl;
  leaves_below = unfit_by alone_read _ refl refl 0 (lit< tt) refl;
  second_leaves = unfit_by (read (passed_on 1) 3 (lit≤ tt) refl (lit≤ tt) refl) _ refl refl 1 (lit< tt) refl;
}
