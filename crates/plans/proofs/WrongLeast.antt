-- Wrong programs for the call least: what each would answer on a starred plan is not the call's answer.
use Prim.Native.Nat.{ℕ, ◌*◌, ◌≤◌}
use mathlib.Core.Path.{◌≡◌, refl, ap, subst}
use mathlib.Core.List.{List, [], ◌∷◌, ◌++◌}
use native.Mathlib.Omega.{arith}
use lib.Dec.{lit≤}
use lib.IntN.{ℤ}
use lib.ListN.{length, get_or, drop}
use Rattle.format.specs.Numbers.{bytes_of}
use Rattle.meaning.specs.LeastCall.{Answer, none, found, written, least_bytes, LeastCall, least_model}
use Rattle.plans.specs.Starred.{UnfoundedPlan, small, printed, example2, example4}
use Rattle.meaning.proofs.Denials.{called}
use Rattle.meaning.proofs.InRanges.{within_inside}
use Rattle.meaning.proofs.Determined.{least_call_unique}
use Rattle.plans.proofs.Starred.{starred_plans}
use Rattle.program.specs.Readings.{valued}

-- three values, two bytes each
abbrev three : ℕ → ℕ → ℕ → List ℕ
three x y z = small x (small y (small z []))

-- on such a plan of n variables the call answers found and the bytes of m, and nothing else
module _ {s a : List ℕ} {m : List ℤ} (u : UnfoundedPlan s a m) (n : ℕ) (e : length a ≡ 2 * n) (b : List ℕ) (h : 2 * n ≤ length b) where
  count : length u.means.variables ≡ n
  count = omega (arith, u.plan.long)

  pub the_answer : LeastCall s a b found (written (valued m) n ++ drop (2 * n) b)
  the_answer =
      subst (λ (k : ℕ). LeastCall s a b found (written (valued m) k ++ drop (2 * k) b)) count
      (least_model (called least_bytes a b u.plan.accepts u.plan.long (omega (arith, count))) (within_inside u.means u.plan.ranges) u.least)

  only_answer : {r : Answer} {b' : List ℕ} → LeastCall s a b r b' → (r ≡ found) × (b' ≡ written (valued m) n ++ drop (2 * n) b)
  only_answer q = least_call_unique q the_answer

-- one that hands back the assignment: 0, 1, 1 in place of 0, 0, 0
pub not_the_assignment : LeastCall printed (three 0 1 1) (three 9 9 9) found (three 0 1 1) → ⊥
unfolding written bytes_of
not_the_assignment q =
    let e : ◌≡◌ {A = ℕ} 1 0 = ap (λ (l : List ℕ). get_or l 3 0) (only_answer starred_plans.printed_least 3 refl (three 9 9 9) (lit≤ tt) q).1 in
    omega arith

-- one that hands back the lows: 0, 0, 0 in place of 3, 4, 5
pub not_the_lows : LeastCall example4 (three 4 5 6) (three 9 9 9) found (three 0 0 0) → ⊥
unfolding written bytes_of
not_the_lows q =
    let e : ◌≡◌ {A = ℕ} 0 3 = ap (λ (l : List ℕ). get_or l 1 0) (only_answer starred_plans.example4_least 3 refl (three 9 9 9) (lit≤ tt) q).1 in
    omega arith

-- one that says none before raising anything
pub not_none : LeastCall example4 (three 4 5 6) (three 9 9 9) none (three 9 9 9) → ⊥
not_none q =
    let e = (only_answer starred_plans.example4_least 3 refl (three 9 9 9) (lit≤ tt) q).0 in let z : ◌≡◌ {A = ℕ} 0 1 = cc in
    omega arith

-- one that does not write the first variable
pub not_first_left_out : LeastCall example4 (three 4 5 6) (three 9 9 9) found (three 9 4 5) → ⊥
unfolding written bytes_of
not_first_left_out q =
    let e : ◌≡◌ {A = ℕ} 9 3 = ap (λ (l : List ℕ). get_or l 1 0) (only_answer starred_plans.example4_least 3 refl (three 9 9 9) (lit≤ tt) q).1 in
    omega arith

-- one that leaves a rule out of the readers of its first variable: x2 and x3 are not looked at again after x1 is raised to 3
pub not_reader_left_out : LeastCall example4 (three 4 5 6) (three 9 9 9) found (three 3 1 2) → ⊥
unfolding written bytes_of
not_reader_left_out q =
    let e : ◌≡◌ {A = ℕ} 1 4 = ap (λ (l : List ℕ). get_or l 3 0) (only_answer starred_plans.example4_least 3 refl (three 9 9 9) (lit≤ tt) q).1 in
    omega arith

-- one that starts founded variables at 0: 2, 0, 5 in place of -8, -10, 5
pub not_started_at_zero : LeastCall example2 (0xFF ∷ 0xF9 ∷ 0xFF ∷ 0xF6 ∷ small 5 []) (three 9 9 9) found (three 2 0 5) → ⊥
unfolding written bytes_of
not_started_at_zero q =
    let e : ◌≡◌ {A = ℕ} 0 0xF6 = ap (λ (l : List ℕ). get_or l 3 0) (only_answer starred_plans.example2_least 3 refl (three 9 9 9) (lit≤ tt) q).1 in
    omega arith

-- one that reads a falling variable from the model: a ≥ b - c + 7 is looked at while c is still at -10, and raises a to 7
pub not_falling_kept : LeastCall example2 (0xFF ∷ 0xF9 ∷ 0xFF ∷ 0xF6 ∷ small 5 []) (three 9 9 9) found (small 7 (0xFF ∷ 0xF6 ∷ small 5 [])) → ⊥
unfolding written bytes_of
not_falling_kept q =
    let e : ◌≡◌ {A = ℕ} 7 0xF8 = ap (λ (l : List ℕ). get_or l 1 0) (only_answer starred_plans.example2_least 3 refl (three 9 9 9) (lit≤ tt) q).1 in
    omega arith
