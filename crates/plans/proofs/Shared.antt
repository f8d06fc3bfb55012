-- Plans with rules of form 8 under the check, computed from their bytes, and wrong checks that they refute.
use mathlib.Core.Path.{◌≡◌, refl}
use Prim.Native.Nat.{ℕ, ◌≤◌}
use mathlib.Core.List.{List, [], ◌∷◌}
use native.Mathlib.Omega.{arith}
use lib.Dec.{lit<, lit≤}
use lib.IntN.{pos, neg_ℤ}
use lib.ListN.{length}
use Rattle.program.specs.Program.{program}
use Rattle.program.specs.Reading.{Accepts}
use Rattle.verdict.specs.Checks.{unfounded, stable, Checks}
use Rattle.verdict.proofs.Determined.{checks_unique}
use Rattle.plans.specs.Starred.{small}
use Rattle.plans.specs.Shared.{third, half, circle, beside, SharedChecks}
use Rattle.plans.proofs.Starred as plans
use Rattle.plans.proofs.Starred.{read, plan_of, stable_plan, unfounded_plan, unmet_plan}
use Rattle.plans.proofs.StarredChecks as checks
use Rattle.plans.proofs.StarredChecks.{stable_checked, unmet_checked, unfounded_checked}

-- ---- the files

third_read : Accepts third (program third 5)
unfolding plans.computes
third_read = read third 5 (lit≤ tt) refl (lit≤ tt) refl

half_read : Accepts (half 0) (program (half 0) 3)
unfolding plans.computes
half_read = read (half 0) 3 (lit≤ tt) refl (lit≤ tt) refl

one_read : Accepts (half 1) (program (half 1) 3)
unfolding plans.computes
one_read = read (half 1) 3 (lit≤ tt) refl (lit≤ tt) refl

circle_read : Accepts circle (program circle 4)
unfolding plans.computes
circle_read = read circle 4 (lit≤ tt) refl (lit≤ tt) refl

beside_read : Accepts beside (program beside 4)
unfolding plans.computes
beside_read = read beside 4 (lit≤ tt) refl (lit≤ tt) refl

-- ---- the plans

pub shared_checks : SharedChecks
unfolding checks.computes
shared_checks = record {
  third_stable = stable_checked (stable_plan (plan_of _ third_read refl refl) 9 (pos 3 ∷ pos 4 ∷ pos 1 ∷ pos 2 ∷ []) refl refl refl refl) 4 refl;
  third_unmet = unmet_checked (unmet_plan (plan_of _ third_read refl refl) 0 (lit< tt) refl refl) 4 refl;
  third_shown = unfounded_checked (unfounded_plan (plan_of _ third_read refl refl) 9 (pos 3 ∷ pos 4 ∷ pos 1 ∷ pos 2 ∷ []) refl refl refl 0 refl)
      third_read 4 refl 0 tt _ _ refl refl _ refl refl;
  half_of_7 = stable_checked (stable_plan (plan_of _ half_read refl refl) 9 (pos 4 ∷ pos 7 ∷ []) refl refl refl refl) 2 refl;
  half_of_7_unmet = unmet_checked (unmet_plan (plan_of _ half_read refl refl) 0 (lit< tt) refl refl) 2 refl;
  half_below = stable_checked (stable_plan (plan_of _ half_read refl refl) 9 (neg_ℤ (pos 3) ∷ neg_ℤ (pos 7) ∷ []) refl refl refl refl) 2 refl;
  half_below_unmet = unmet_checked (unmet_plan (plan_of _ half_read refl refl) 0 (lit< tt) refl refl) 2 refl;
  half_even = stable_checked (stable_plan (plan_of _ half_read refl refl) 9 (neg_ℤ (pos 4) ∷ neg_ℤ (pos 8) ∷ []) refl refl refl refl) 2 refl;
  c_divided = stable_checked (stable_plan (plan_of _ one_read refl refl) 9 (pos 1 ∷ pos 1 ∷ []) refl refl refl refl) 2 refl;
  c_divided_shown = unfounded_checked (unfounded_plan (plan_of _ one_read refl refl) 9 (pos 1 ∷ pos 1 ∷ []) refl refl refl 0 refl)
      one_read 2 refl 0 tt _ _ refl refl _ refl refl;
  circle_stable = stable_checked (stable_plan (plan_of _ circle_read refl refl) 19 (pos 5 ∷ pos 5 ∷ []) refl refl refl refl) 2 refl;
  circle_shown = unfounded_checked (unfounded_plan (plan_of _ circle_read refl refl) 19 (pos 5 ∷ pos 5 ∷ []) refl refl refl 0 refl)
      circle_read 2 refl 0 tt _ _ refl refl _ refl refl;
  beside_shown = unfounded_checked (unfounded_plan (plan_of _ beside_read refl refl) 9 (pos 5 ∷ pos 3 ∷ pos 6 ∷ []) refl refl refl 1 refl)
      beside_read 3 refl 1 tt _ _ refl refl _ refl refl;
}

-- ---- wrong checks

-- one that rounds down calls -4 stable for -7 over 2
pub not_rounded_down : (b b' : List ℕ) → 24 ≤ length b → Checks (half 0) (0xFF ∷ 0xFC ∷ 0xFF ∷ 0xF9 ∷ []) b stable b' → ⊥
not_rounded_down b b' h q = let e = (checks_unique q (shared_checks.half_below_unmet b h)).0 in let z : ◌≡◌ {A = ℕ} 0 1 = cc in omega arith

-- one that rounds towards 0 calls 3 stable for 7 over 2
pub not_towards_zero : (b b' : List ℕ) → 24 ≤ length b → Checks (half 0) (small 3 (small 7 [])) b stable b' → ⊥
not_towards_zero b b' h q = let e = (checks_unique q (shared_checks.half_of_7_unmet b h)).0 in let z : ◌≡◌ {A = ℕ} 0 1 = cc in omega arith

-- one that adds c after dividing calls 2 stable for 1 + 1 over 2
pub not_c_after_dividing : (b b' : List ℕ) → 24 ≤ length b → Checks (half 1) (small 2 (small 1 [])) b stable b' → ⊥
not_c_after_dividing b b' h q = let e = (checks_unique q (shared_checks.c_divided_shown b h)).0 in let z : ◌≡◌ {A = ℕ} 0 1 = cc in omega arith

-- one that reads the divisor as an occurrence of variable 0 shows a condition on it too
pub not_an_occurrence : (b b' : List ℕ) → 36 ≤ length b → Checks beside (small 5 (small 4 (small 6 []))) b (unfounded 1 2) b' → ⊥
not_an_occurrence b b' h q = let e = (checks_unique q (shared_checks.beside_shown b h)).0 in let z : ◌≡◌ {A = ℕ} 1 2 = cc in omega arith
