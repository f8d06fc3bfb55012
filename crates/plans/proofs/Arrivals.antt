-- Plans with variables that are founded from above, under the check, computed from their bytes.
use mathlib.Core.Path.{refl}
use mathlib.Core.List.{[], ◌∷◌}
use lib.Dec.{lit<, lit≤}
use lib.IntN.{pos, neg_ℤ}
use Rattle.program.specs.Program.{program}
use Rattle.program.specs.Reading.{Accepts, Reads, refused}
use Rattle.program.proofs.Decide.{whole_by, refused_by}
use Rattle.meaning.specs.Calls.{bad_file}
use Rattle.verdict.specs.Checks.{turned_down}
use Rattle.plans.specs.Arrivals.{arrival, together, both_kinds, by_literals, apart, against, half_above, own_above, sized_above, sized_apart, ArrivalChecks}
use Rattle.plans.specs.Arrivals.{printed_above, example2_above, example1_above, example4_above, contrary_above}
use Rattle.plans.proofs.Starred as plans
use Rattle.plans.proofs.Starred.{read, plan_of, stable_plan, unfounded_plan, unmet_plan}
use Rattle.plans.proofs.StarredChecks as checks
use Rattle.plans.proofs.StarredChecks.{stable_checked, unmet_checked, unfounded_checked}

-- ---- the files

arrival_read : Accepts arrival (program arrival 8)
unfolding plans.computes
arrival_read = read arrival 8 (lit≤ tt) refl (lit≤ tt) refl

together_read : Accepts together (program together 7)
unfolding plans.computes
together_read = read together 7 (lit≤ tt) refl (lit≤ tt) refl

both_read : Accepts both_kinds (program both_kinds 8)
unfolding plans.computes
both_read = read both_kinds 8 (lit≤ tt) refl (lit≤ tt) refl

literals_read : Accepts by_literals (program by_literals 6)
unfolding plans.computes
literals_read = read by_literals 6 (lit≤ tt) refl (lit≤ tt) refl

apart_read : Accepts apart (program apart 4)
unfolding plans.computes
apart_read = read apart 4 (lit≤ tt) refl (lit≤ tt) refl

against_read : Accepts against (program against 4)
unfolding plans.computes
against_read = read against 4 (lit≤ tt) refl (lit≤ tt) refl

printed_read : Accepts printed_above (program printed_above 6)
unfolding plans.computes
printed_read = read printed_above 6 (lit≤ tt) refl (lit≤ tt) refl

example2_read : Accepts example2_above (program example2_above 5)
unfolding plans.computes
example2_read = read example2_above 5 (lit≤ tt) refl (lit≤ tt) refl

example1_read : Accepts example1_above (program example1_above 8)
unfolding plans.computes
example1_read = read example1_above 8 (lit≤ tt) refl (lit≤ tt) refl

example4_read : Accepts example4_above (program example4_above 7)
unfolding plans.computes
example4_read = read example4_above 7 (lit≤ tt) refl (lit≤ tt) refl

contrary_read : Accepts contrary_above (program contrary_above 2)
unfolding plans.computes
contrary_read = read contrary_above 2 (lit≤ tt) refl (lit≤ tt) refl

half_read : Accepts half_above (program half_above 3)
unfolding plans.computes
half_read = read half_above 3 (lit≤ tt) refl (lit≤ tt) refl

own_read : Accepts (own_above 5) (program (own_above 5) 2)
unfolding plans.computes
own_read = read (own_above 5) 2 (lit≤ tt) refl (lit≤ tt) refl

pub own_not_valid : Reads (own_above 4) (refused 13 8)
unfolding plans.computes
own_not_valid = refused_by (whole_by (own_above 4) 2 (lit≤ tt) refl (lit≤ tt)) 0 (lit< tt) refl refl

pub sized_not_valid : Reads (sized_above 9) (refused 13 16)
unfolding plans.computes
sized_not_valid = refused_by (whole_by (sized_above 9) 4 (lit≤ tt) refl (lit≤ tt)) 0 (lit< tt) refl refl

sized_idle_read : Accepts (sized_above 10) (program (sized_above 10) 4)
unfolding plans.computes
sized_idle_read = read (sized_above 10) 4 (lit≤ tt) refl (lit≤ tt) refl

pub sized_read : Accepts sized_apart (program sized_apart 4)
unfolding plans.computes
sized_read = read sized_apart 4 (lit≤ tt) refl (lit≤ tt) refl

-- ---- the plans

pub arrival_checks : ArrivalChecks
unfolding checks.computes
arrival_checks = record {
  arrival_stable = stable_checked (stable_plan (plan_of _ arrival_read refl refl) 9 (pos 5 ∷ pos 15 ∷ pos 25 ∷ []) refl refl refl refl) 3 refl;
  arrival_shown = unfounded_checked (unfounded_plan (plan_of _ arrival_read refl refl) 9 (pos 5 ∷ pos 15 ∷ pos 25 ∷ []) refl refl refl 1 refl)
      arrival_read 3 refl 1 tt _ _ refl refl _ refl refl;
  arrival_all = unfounded_checked (unfounded_plan (plan_of _ arrival_read refl refl) 9 (pos 5 ∷ pos 15 ∷ pos 25 ∷ []) refl refl refl 0 refl)
      arrival_read 3 refl 0 tt _ _ refl refl _ refl refl;
  arrival_unmet = unmet_checked (unmet_plan (plan_of _ arrival_read refl refl) 1 (lit< tt) refl refl) 3 refl;
  arrival_late = unmet_checked (unmet_plan (plan_of _ arrival_read refl refl) 2 (lit< tt) refl refl) 3 refl;
  together_stable = stable_checked (stable_plan (plan_of _ together_read refl refl) 9 (pos 5 ∷ pos 15 ∷ pos 15 ∷ []) refl refl refl refl) 3 refl;
  together_shown = unfounded_checked (unfounded_plan (plan_of _ together_read refl refl) 9 (pos 5 ∷ pos 15 ∷ pos 15 ∷ []) refl refl refl 1 refl)
      together_read 3 refl 1 tt _ _ refl refl _ refl refl;
  both_stable = stable_checked (stable_plan (plan_of _ both_read refl refl) 9 (pos 3 ∷ neg_ℤ (pos 3) ∷ pos 4 ∷ pos 3 ∷ []) refl refl refl refl) 4 refl;
  both_shown = unfounded_checked (unfounded_plan (plan_of _ both_read refl refl) 9 (pos 3 ∷ neg_ℤ (pos 3) ∷ pos 4 ∷ pos 3 ∷ []) refl refl refl 1 refl)
      both_read 4 refl 1 tt _ _ refl refl _ refl refl;
  literals_stable = stable_checked (stable_plan (plan_of _ literals_read refl refl) 9 (pos 1 ∷ pos 1 ∷ pos 0 ∷ []) refl refl refl refl) 3 refl;
  literals_start_stable = stable_checked (stable_plan (plan_of _ literals_read refl refl) 9 (pos 0 ∷ pos 0 ∷ pos 1 ∷ []) refl refl refl refl) 3 refl;
  literals_shown = unfounded_checked (unfounded_plan (plan_of _ literals_read refl refl) 9 (pos 0 ∷ pos 0 ∷ pos 1 ∷ []) refl refl refl 1 refl)
      literals_read 3 refl 1 tt _ _ refl refl _ refl refl;
  apart_stable = stable_checked (stable_plan (plan_of _ apart_read refl refl) 9 (pos 2 ∷ pos 2 ∷ []) refl refl refl refl) 2 refl;
  apart_shown = unfounded_checked (unfounded_plan (plan_of _ apart_read refl refl) 9 (pos 2 ∷ pos 5 ∷ []) refl refl refl 0 refl)
      apart_read 2 refl 0 tt _ _ refl refl _ refl refl;
  against_stable = stable_checked (stable_plan (plan_of _ against_read refl refl) 9 (pos 0 ∷ pos 5 ∷ []) refl refl refl refl) 2 refl;
  against_shown = unfounded_checked (unfounded_plan (plan_of _ against_read refl refl) 9 (pos 2 ∷ pos 5 ∷ []) refl refl refl 0 refl)
      against_read 2 refl 0 tt _ _ refl refl _ refl refl;
  printed_stable = stable_checked (stable_plan (plan_of _ printed_read refl refl) 9 (pos 1 ∷ neg_ℤ (pos 1) ∷ neg_ℤ (pos 1) ∷ []) refl refl refl refl) 3 refl;
  printed_shown = unfounded_checked (unfounded_plan (plan_of _ printed_read refl refl) 9 (pos 0 ∷ pos 0 ∷ pos 0 ∷ []) refl refl refl 1 refl)
      printed_read 3 refl 1 tt _ _ refl refl _ refl refl;
  example2_stable = stable_checked (stable_plan (plan_of _ example2_read refl refl) 9 (pos 8 ∷ pos 10 ∷ neg_ℤ (pos 5) ∷ []) refl refl refl refl) 3 refl;
  example2_shown = unfounded_checked (unfounded_plan (plan_of _ example2_read refl refl) 9 (pos 8 ∷ pos 10 ∷ neg_ℤ (pos 5) ∷ []) refl refl refl 0 refl)
      example2_read 3 refl 0 tt _ _ refl refl _ refl refl;
  example1_stable = stable_checked
      (stable_plan (plan_of _ example1_read refl refl) 9 (neg_ℤ (pos 17) ∷ neg_ℤ (pos 8) ∷ pos 9 ∷ neg_ℤ (pos 1) ∷ pos 0 ∷ []) refl refl refl refl) 5 refl;
  example1_shown = unfounded_checked
      (unfounded_plan (plan_of _ example1_read refl refl) 9 (neg_ℤ (pos 3) ∷ pos 0 ∷ pos 3 ∷ pos 0 ∷ pos 0 ∷ []) refl refl refl 0 refl)
      example1_read 5 refl 0 tt _ _ refl refl _ refl refl;
  example4_stable = stable_checked
      (stable_plan (plan_of _ example4_read refl refl) 9 (neg_ℤ (pos 3) ∷ neg_ℤ (pos 4) ∷ neg_ℤ (pos 5) ∷ []) refl refl refl refl) 3 refl;
  example4_shown = unfounded_checked
      (unfounded_plan (plan_of _ example4_read refl refl) 9 (neg_ℤ (pos 3) ∷ neg_ℤ (pos 4) ∷ neg_ℤ (pos 5) ∷ []) refl refl refl 0 refl)
      example4_read 3 refl 0 tt _ _ refl refl _ refl refl;
  contrary_unmet = unmet_checked (unmet_plan (plan_of _ contrary_read refl refl) 0 (lit< tt) refl refl) 1 refl;
  contrary_shown = unfounded_checked (unfounded_plan (plan_of _ contrary_read refl refl) 9 (pos 0 ∷ []) refl refl refl 0 refl)
      contrary_read 1 refl 0 tt _ _ refl refl _ refl refl;
  half_stable = stable_checked (stable_plan (plan_of _ half_read refl refl) 9 (neg_ℤ (pos 3) ∷ neg_ℤ (pos 7) ∷ []) refl refl refl refl) 2 refl;
  half_unmet = unmet_checked (unmet_plan (plan_of _ half_read refl refl) 0 (lit< tt) refl refl) 2 refl;
  half_shown = unfounded_checked (unfounded_plan (plan_of _ half_read refl refl) 9 (neg_ℤ (pos 3) ∷ neg_ℤ (pos 7) ∷ []) refl refl refl 0 refl)
      half_read 2 refl 0 tt _ _ refl refl _ refl refl;
  half_of_7 = stable_checked (stable_plan (plan_of _ half_read refl refl) 9 (pos 4 ∷ pos 7 ∷ []) refl refl refl refl) 2 refl;
  half_of_7_unmet = unmet_checked (unmet_plan (plan_of _ half_read refl refl) 0 (lit< tt) refl refl) 2 refl;
  own_stable = stable_checked (stable_plan (plan_of _ own_read refl refl) 9 (pos 5 ∷ []) refl refl refl refl) 1 refl;
  own_shown = unfounded_checked (unfounded_plan (plan_of _ own_read refl refl) 9 (pos 5 ∷ []) refl refl refl 0 refl)
      own_read 1 refl 0 tt _ _ refl refl _ refl refl;
  own_refused = λ a b. turned_down (bad_file own_not_valid);
  sized_refused = λ a b. turned_down (bad_file sized_not_valid);
  sized_idle_stable = stable_checked (stable_plan (plan_of _ sized_idle_read refl refl) 9 (pos 10 ∷ pos 10 ∷ []) refl refl refl refl) 2 refl;
  sized_idle_shown = unfounded_checked (unfounded_plan (plan_of _ sized_idle_read refl refl) 9 (pos 7 ∷ pos 10 ∷ []) refl refl refl 1 refl)
      sized_idle_read 2 refl 1 tt _ _ refl refl _ refl refl;
  sized_stable = stable_checked (stable_plan (plan_of _ sized_read refl refl) 9 (pos 3 ∷ pos 3 ∷ []) refl refl refl refl) 2 refl;
  sized_shown = unfounded_checked (unfounded_plan (plan_of _ sized_read refl refl) 9 (pos 2 ∷ pos 3 ∷ []) refl refl refl 0 refl)
      sized_read 2 refl 0 tt _ _ refl refl _ refl refl;
}
