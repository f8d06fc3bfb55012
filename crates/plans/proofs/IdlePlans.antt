-- Plans with idle rules under the check, computed from their bytes, and wrong checks that they refute.
use Prim.Native.Nat.{ℕ, ◌*◌, ◌≤◌}
use mathlib.Core.Path.{◌≡◌, refl, ap}
use mathlib.Core.List.{List, [], ◌∷◌}
use native.Mathlib.Omega.{arith}
use lib.Dec.{lit<, lit≤}
use lib.IntN.{pos, neg_ℤ}
use lib.ListN.{length}
use Rattle.program.specs.Program.{Program, program, rule_in}
use Rattle.program.specs.Idle.{Idle}
use Rattle.program.specs.Reading.{Accepts}
use Rattle.meaning.specs.LeastCall.{FirstOutside}
use Rattle.program.proofs.Promises.{accepts_promises}
use Rattle.program.proofs.IdleRules.{idle_told}
use Rattle.meaning.specs.Stable.{assigned, RuleMet}
use Rattle.meaning.proofs.Denials.{called}
use Rattle.verdict.specs.Checks.{refusal, range, rule, unfounded, check_bytes, Checks, judged, outside}
use Rattle.verdict.proofs.Demanded.{word, first, second}
use Rattle.verdict.proofs.Determined.{checks_unique}
use Rattle.plans.specs.Starred.{small}
use Rattle.plans.specs.StarredChecks.{Checked}
use Rattle.plans.specs.IdlePlans.{own_size, own_and_2, twice, needs_9, below, IdleChecks}
use Rattle.plans.proofs.Starred as plans
use Rattle.plans.proofs.Starred.{read, plan_of, stable_plan, unfounded_plan, unmet_plan}
use Rattle.plans.proofs.StarredChecks as checks
use Rattle.plans.proofs.StarredChecks.{stable_checked, unmet_checked, unfounded_checked}

-- ---- the files

own_read : Accepts own_size (program own_size 2)
unfolding plans.computes
own_read = read own_size 2 (lit≤ tt) refl (lit≤ tt) refl

and_2_read : Accepts own_and_2 (program own_and_2 3)
unfolding plans.computes
and_2_read = read own_and_2 3 (lit≤ tt) refl (lit≤ tt) refl

twice_read : Accepts twice (program twice 4)
unfolding plans.computes
twice_read = read twice 4 (lit≤ tt) refl (lit≤ tt) refl

needs_9_read : Accepts needs_9 (program needs_9 5)
unfolding plans.computes
needs_9_read = read needs_9 5 (lit≤ tt) refl (lit≤ tt) refl

-- ---- the plans

outside_checked : {s a : List ℕ} {P : Program} {v : ℕ} → Accepts s P → length a ≡ 2 * length P.variables → FirstOutside P (assigned a) v
    → (n : ℕ) → length a ≡ 2 * n → Checked s a n (range v) []
outside_checked {a = a} x l f n e b h = judged (called check_bytes a b x l (omega (arith, l))) (outside f)

pub idle_checks : IdleChecks
unfolding checks.computes
idle_checks = record {
  own_stable = stable_checked (stable_plan (plan_of _ own_read refl refl) 9 (neg_ℤ (pos 5) ∷ []) refl refl refl refl) 1 refl;
  own_shown = unfounded_checked (unfounded_plan (plan_of _ own_read refl refl) 9 (neg_ℤ (pos 5) ∷ []) refl refl refl 0 refl)
      own_read 1 refl 0 tt _ _ refl refl _ refl refl;
  own_unmet = unmet_checked (unmet_plan (plan_of _ and_2_read refl refl) 1 (lit< tt) refl refl) 1 refl;
  twice_stable = stable_checked (stable_plan (plan_of _ twice_read refl refl) 9 (pos 10 ∷ neg_ℤ (pos 10) ∷ []) refl refl refl refl) 2 refl;
  twice_shown = unfounded_checked (unfounded_plan (plan_of _ twice_read refl refl) 9 (pos 3 ∷ neg_ℤ (pos 10) ∷ []) refl refl refl 1 refl)
      twice_read 2 refl 1 tt _ _ refl refl _ refl refl;
  twice_both = unfounded_checked (unfounded_plan (plan_of _ twice_read refl refl) 9 (pos 3 ∷ neg_ℤ (pos 10) ∷ []) refl refl refl 0 refl)
      twice_read 2 refl 0 tt _ _ refl refl _ refl refl;
  twice_outside = outside_checked twice_read refl (record { declared = lit< tt; outside = refl; first = λ u h. absurd (omega arith) }) 2 refl;
  needs_9_stable = stable_checked (stable_plan (plan_of _ needs_9_read refl refl) 9 (pos 10 ∷ neg_ℤ (pos 10) ∷ pos 4 ∷ []) refl refl refl refl) 3 refl;
  needs_9_shown = unfounded_checked (unfounded_plan (plan_of _ needs_9_read refl refl) 9 (pos 3 ∷ neg_ℤ (pos 10) ∷ pos 4 ∷ []) refl refl refl 1 refl)
      needs_9_read 3 refl 1 tt _ _ refl refl _ refl refl;
}

-- ---- out of its ranges an assignment can make an idle rule lift: b ≥ 2a - 30 at a = 11

pub twice_idle : Idle (program twice 4) (rule_in (program twice 4).rules 1)
unfolding plans.computes
twice_idle = let p = accepts_promises twice_read in idle_told p (p.rules 1 (lit< tt)) tt

pub outside_lifts : RuleMet (program twice 4) (assigned (small 11 (below 10 []))) 1 → ⊥
unfolding checks.computes
outside_lifts t = t

-- ---- wrong checks

module _ {b b' : List ℕ} where
  module _ (h : 24 ≤ length b) where
    -- one that turns the file down, as if the idle rule drew its edge
    pub not_turned_down : Checks twice (small 10 (below 10 [])) b (refusal 13 16) b' → ⊥
    not_turned_down q = let e = ap word (checks_unique q (idle_checks.twice_stable b h)).0 in omega arith

    -- one that leaves idle rules out of the conditions: nothing is asked of a
    pub not_left_out : Checks twice (small 3 (below 3 [])) b (unfounded 1 0) b' → ⊥
    not_left_out q = let e = ap second (checks_unique q (idle_checks.twice_shown b h)).0 in omega arith

    -- one that keeps no variable of an idle rule: a is asked to be at most 5 though it is in the set
    pub not_unkept : Checks twice (small 5 (below 3 [])) b (unfounded 2 3) b' → ⊥
    not_unkept q = let e = ap second (checks_unique q (idle_checks.twice_both b h)).0 in omega arith

    -- one that asks the rules before the ranges
    pub not_rule_before_range : Checks twice (small 11 (below 10 [])) b (rule 1) b' → ⊥
    not_rule_before_range q = let e = ap word (checks_unique q (idle_checks.twice_outside b h)).0 in omega arith

  module _ (h : 12 ≤ length b) where
    -- one that leaves idle rules out of the conditions: the report is the bound alone
    pub not_the_bound_alone : Checks own_size (small 0 []) b (unfounded 1 0) b' → ⊥
    not_the_bound_alone q = let e = ap second (checks_unique q (idle_checks.own_shown b h)).0 in omega arith

    -- one that leaves idle rules out of the numbering: a ≥ 2 is then rule 0
    pub not_renumbered : Checks own_and_2 (small 0 []) b (rule 0) b' → ⊥
    not_renumbered q = let e = ap first (checks_unique q (idle_checks.own_unmet b h)).0 in omega arith
