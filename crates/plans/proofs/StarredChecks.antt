-- Document 01's starred sample plans under the check, and wrong checks that they refute.
use Prim.Native.Nat.{ℕ, ◌+◌, ◌*◌, ◌≤◌}
use mathlib.Core.Path.{◌≡◌, refl, ap, ap₂, subst, ◌∙◌}
use mathlib.Core.Bool.{false}
use mathlib.Core.List.{List, [], ◌∷◌, ◌++◌}
use native.Mathlib.Omega.{arith}
use lib.Dec.{T}
use lib.IntN.{ℤ}
use lib.ListN.{length, drop}
use Rattle.format.specs.Numbers.{bytes_of}
use Rattle.program.specs.Program.{Program}
use Rattle.program.specs.Reading.{Accepts}
use Rattle.program.proofs.Unique.{accepts_unique}
use Rattle.meaning.specs.Founded.{Least}
use Rattle.meaning.specs.Reduct.{system}
use Rattle.meaning.specs.Stable.{assigned, ConstraintMet, Meets}
use Rattle.meaning.specs.Calls.{Called, lengths}
use Rattle.meaning.proofs.Denials.{called}
use Rattle.plans.specs.Starred.{Plan, StablePlan, UnfoundedPlan, UnmetPlan, small, printed, example2, example1, example4, contrary}
use Rattle.plans.proofs.Starred as plans
use Rattle.plans.proofs.Starred.{unmet_in, rules_met, starred_plans, printed_read, example2_read, example1_read, example4_read, contrary_read}
use Rattle.report.specs.Report.{bytes_in, ascending, asked_at, asked_by, asked, shown, bounds, conditions}
use Rattle.verdict.specs.Checks.{unfounded, stable, rule, constraint, FirstUnmet, check_bytes, Checks, judged, is_stable, some_shown, rule_unmet, constraint_unmet}
use Rattle.plans.specs.StarredChecks.{Checked, StarredChecks}
use Rattle.program.specs.Readings.{valued}

-- unfolding this unfolds the report too
unfoldable pub computes : Unit {0}
unfolding plans.computes bytes_of bytes_in ascending asked_at asked_by asked
computes = tt

-- a plan of n variables is not turned down
plan_called : (b : List ℕ) {s a : List ℕ} {P : Program} → Plan s a P → (n : ℕ) → length a ≡ 2 * n → check_bytes * n ≤ length b → Called (lengths check_bytes a b) s P
plan_called b {a = a} p n e h = called check_bytes a b p.accepts p.long (omega (arith, p.long))

pub stable_checked : {s a : List ℕ} → StablePlan s a → (n : ℕ) → length a ≡ 2 * n → Checked s a n stable []
stable_checked u n e b h = judged (plan_called b u.plan n e h) (is_stable u.stable)

pub unmet_checked : {s a : List ℕ} {i : ℕ} → UnmetPlan s a i → (n : ℕ) → length a ≡ 2 * n → Checked s a n (rule i) []
unmet_checked u n e b h = judged (plan_called b u.plan n e h) (rule_unmet u.plan.ranges (record { among = u.among; unmet = u.unmet; first = u.first }))

pub constraint_checked : {s a : List ℕ} {P : Program} {i : ℕ} → Plan s a P → unmet_in P (assigned a) (length P.rules) ≡ false
    → FirstUnmet (ConstraintMet P (assigned a)) (length P.constraints) i → (n : ℕ) → length a ≡ 2 * n → Checked s a n (constraint i) []
constraint_checked {a = a} {P} p r f n e b h = judged (plan_called b p n e h) (constraint_unmet p.ranges (rules_met P (assigned a) (length P.rules) r) f)

-- the report of a plan, by the program Q that its file means
module _ {s a : List ℕ} {m : List ℤ} (u : UnfoundedPlan s a m) {Q : Program} (x : Accepts s Q) (n : ℕ) (e : length a ≡ 2 * n) where
  same : u.means ≡ Q
  same = accepts_unique u.plan.accepts x

  pub unfounded_checked : (v : ℕ) → T (shown Q (assigned a) (valued m) v) → (k l : ℕ) → length (bounds Q (assigned a) (valued m)) ≡ k
      → length (conditions Q (assigned a) (valued m)) ≡ l → (bytes : List ℕ) → bytes_in (bounds Q (assigned a) (valued m) ++ conditions Q (assigned a) (valued m)) ≡ bytes
      → 4 * (k + l) ≡ length bytes → Checked s a n (unfounded k l) bytes
  unfounded_checked v t k l p q bytes w size b h =
      subst (λ r. Checks s a b r (bytes ++ drop (length bytes) b)) (ap₂ unfounded p q)
      (subst (Checks s a b _) (ap₂ ◌++◌ w (ap (λ (j : ℕ). drop j b) (ap (λ (j : ℕ). 4 * j) (ap₂ ◌+◌ p q) ∙ size)))
      (judged (subst (Called (lengths check_bytes a b) s) same (plan_called b u.plan n e h))
      (some_shown (subst (λ (R : Program). Meets R (assigned a)) same u.meets) (subst (λ (R : Program). Least (system R) (assigned a) (valued m)) same u.least) (v, t))))

printed_shown : Checked printed (small 0 (small 1 (small 1 []))) 3 (unfounded 2 1)
    (0x01 ∷ 0x00 ∷ 0x00 ∷ 0x00 ∷ 0x02 ∷ 0x00 ∷ 0x00 ∷ 0x00 ∷ 0x00 ∷ 0x01 ∷ 0x00 ∷ 0x00 ∷ [])
unfolding computes
printed_shown = unfounded_checked starred_plans.printed_least printed_read 3 refl 1 tt _ _ refl refl _ refl refl

example2_shown : Checked example2 (0xFF ∷ 0xF9 ∷ 0xFF ∷ 0xF6 ∷ small 5 []) 3 (unfounded 1 2)
    (0x00 ∷ 0x00 ∷ 0xFF ∷ 0xF8 ∷ 0x01 ∷ 0x01 ∷ 0xFF ∷ 0xF6 ∷ 0x02 ∷ 0x02 ∷ 0x00 ∷ 0x05 ∷ [])
unfolding computes
example2_shown = unfounded_checked starred_plans.example2_least example2_read 3 refl 0 tt _ _ refl refl _ refl refl

example1_shown : Checked example1 (small 17 (small 8 (small 3 (small 1 (small 0 []))))) 5 (unfounded 3 2)
    (0x00 ∷ 0x00 ∷ 0x00 ∷ 0x03 ∷ 0x01 ∷ 0x00 ∷ 0x00 ∷ 0x00 ∷ 0x03 ∷ 0x00 ∷ 0x00 ∷ 0x00 ∷ 0x02 ∷ 0x01 ∷ 0x00 ∷ 0x03 ∷ 0x04 ∷ 0x02 ∷ 0x00 ∷ 0x00 ∷ [])
unfolding computes
example1_shown = unfounded_checked starred_plans.example1_least example1_read 5 refl 0 tt _ _ refl refl _ refl refl

example4_shown : Checked example4 (small 4 (small 5 (small 6 []))) 3 (unfounded 3 0)
    (0x00 ∷ 0x00 ∷ 0x00 ∷ 0x03 ∷ 0x01 ∷ 0x00 ∷ 0x00 ∷ 0x04 ∷ 0x02 ∷ 0x00 ∷ 0x00 ∷ 0x05 ∷ [])
unfolding computes
example4_shown = unfounded_checked starred_plans.example4_least example4_read 3 refl 0 tt _ _ refl refl _ refl refl

contrary_shown : Checked contrary (small 1 []) 1 (unfounded 1 1) (0x00 ∷ 0x00 ∷ 0x00 ∷ 0x00 ∷ 0x00 ∷ 0x02 ∷ 0x00 ∷ 0x01 ∷ [])
unfolding computes
contrary_shown = unfounded_checked starred_plans.contrary_least contrary_read 1 refl 0 tt _ _ refl refl _ refl refl

-- the joint theorem
pub starred_checks : StarredChecks
starred_checks = record {
  empty_stable = stable_checked starred_plans.empty_stable 0 refl;
  printed_stable = stable_checked starred_plans.printed_stable 3 refl;
  printed_shown = printed_shown;
  example2_stable = stable_checked starred_plans.example2_stable 3 refl;
  example2_shown = example2_shown;
  example1_stable = stable_checked starred_plans.example1_stable 5 refl;
  example1_shown = example1_shown;
  example4_stable = stable_checked starred_plans.example4_stable 3 refl;
  example4_shown = example4_shown;
  contrary_unmet = unmet_checked starred_plans.contrary_unmet 1 refl;
  contrary_shown = contrary_shown;
}
