-- Wrong calls, each refuted by what it would answer or write for a small file: a call has one answer, and the right one is another.
use Prim.Native.Nat.{ℕ, ◌<◌, ◌≤◌}
use mathlib.Core.Path.{◌≡◌, refl, ap, subst}
use mathlib.Core.Bool.{Bool}
use mathlib.Core.Logic.{inl, inr}
use mathlib.Core.List.{List, [], ◌∷◌}
use native.Mathlib.Omega.{arith}
use lib.Dec.{ltb, ltb→lt, nltb→le, lit<, lit≤}
use lib.ListN.{length, get_or, replicate}
use Rattle.program.specs.Program.{program}
use Rattle.program.specs.Reading.{Accepts}
use Rattle.program.proofs.Examples.{cut_header}
use Rattle.program.proofs.Promises.{accepts_promises}
use Rattle.program.proofs.Tests.{cases}
use Rattle.meaning.specs.Calls.{Refuses, bad_file, bad_call, lengths}
use Rattle.meaning.specs.Reduct.{reduct}
use Rattle.meaning.specs.LeastCall as least
use Rattle.meaning.specs.LeastCall.{least_bytes, LeastCall, no_model}
use Rattle.meaning.specs.Search as searching
use Rattle.meaning.specs.Stable.{assigned}
use Rattle.meaning.proofs.Denials.{called}
use Rattle.meaning.proofs.Determined.{least_call_unique}
use Rattle.meaning.proofs.Search.{Right, search_right}
use Rattle.verdict.specs.Checks.{refusal, rule, constraint, check_bytes, Checks, turned_down}
use Rattle.verdict.specs.Checks as check
use Rattle.verdict.proofs.Demanded.{word, first}
use Rattle.verdict.proofs.Determined.{checks_unique}
use Rattle.plans.specs.Starred.{variable, small, printed}
use Rattle.plans.specs.StarredChecks.{Checked}
use Rattle.plans.proofs.Starred as plans
use Rattle.plans.proofs.Starred.{printed_read, read, all_inside, plan_of, unmet_plan}
use Rattle.plans.proofs.StarredChecks.{starred_checks, unmet_checked}

-- ---- refusals 14 and 15, for the printing program's file: its three variables ask 6 bytes of the assignment and 36 of the report

module _ (a b : List ℕ) where
  wrong_assignment : (bytes : ℕ) → (length a ≡ 6 → ⊥) → Refuses (lengths bytes a b) printed 14 0
  unfolding plans.computes
  wrong_assignment bytes h = bad_call printed_read (inl (refl, (h, refl)))

  short_report : length a ≡ 6 → length b < 36 → Refuses (lengths check_bytes a b) printed 15 0
  unfolding plans.computes
  short_report e h = bad_call printed_read (inr (λ at x. x.0 e, inl (refl, (h, refl))))

module _ {a b b' : List ℕ} {r : check.Answer} (q : Checks printed a b r b') where
  -- an assignment of any other length is refusal 14, whatever report is lent, and the report keeps its bytes
  pub only_14 : (length a ≡ 6 → ⊥) → (r ≡ refusal 14 0) × (b' ≡ b)
  only_14 h = checks_unique q (turned_down (wrong_assignment a b check_bytes h))

  -- a report under 36 bytes is refusal 15, and keeps its bytes
  pub only_15 : length a ≡ 6 → length b < 36 → (r ≡ refusal 15 0) × (b' ≡ b)
  only_15 e h = checks_unique q (turned_down (short_report a b e h))

abbrev ones : List ℕ
ones = small 1 (small 1 (small 1 []))

-- one that judges 14 on another length says 14 here, where the assignment has its 6 bytes
pub not_another_length : {b b' : List ℕ} {at : ℕ} → Checks printed ones b (refusal 14 at) b' → ⊥
not_another_length {b} q =
    cases (ltb (length b) 36) (λ (c : Bool). ⊥)
    (λ t. let e = ap first (only_15 q refl (ltb→lt (length b) 36 t)).0 in omega arith)
    (λ f. let e = ap word (checks_unique q (starred_checks.printed_stable b (nltb→le (length b) 36 f))).0 in omega arith)

-- one that asks for 15 before 14: both lengths are wrong
pub not_15_before_14 : {b' : List ℕ} {at : ℕ} → Checks printed [] [] (refusal 15 at) b' → ⊥
not_15_before_14 q = let e = ap first (only_14 q (λ z. omega arith)).0 in omega arith

-- one that swaps the numbers: the report alone is short, or the assignment alone is
pub not_14_for_15 : {b' : List ℕ} {at : ℕ} → Checks printed ones [] (refusal 14 at) b' → ⊥
not_14_for_15 q = let e = ap first (only_15 q refl (lit< tt)).0 in omega arith

pub not_15_for_14 : {b b' : List ℕ} {at : ℕ} → Checks printed [] b (refusal 15 at) b' → ⊥
not_15_for_14 q = let e = ap first (only_14 q (λ z. omega arith)).0 in omega arith

-- one that writes though it turns the call down
pub not_written_on_14 : {r : check.Answer} → Checks printed [] (9 ∷ []) r (0 ∷ []) → ⊥
not_written_on_14 q = let e : ◌≡◌ {A = ℕ} 0 9 = ap (λ (l : List ℕ). get_or l 0 0) (only_14 q (λ z. omega arith)).1 in omega arith

pub not_written_on_15 : {r : check.Answer} → Checks printed ones (9 ∷ []) r (0 ∷ []) → ⊥
not_written_on_15 q = let e : ◌≡◌ {A = ℕ} 0 9 = ap (λ (l : List ℕ). get_or l 0 0) (only_15 q refl (lit< tt)).1 in omega arith

pub not_written_on_2 : {r : check.Answer} → Checks (9 ∷ []) [] (9 ∷ []) r (0 ∷ []) → ⊥
not_written_on_2 q =
    let e : ◌≡◌ {A = ℕ} 0 9 = ap (λ (l : List ℕ). get_or l 0 0) (checks_unique q (turned_down (bad_file cut_header))).1 in omega arith

pub not_least_written_on_14 : {r : least.Answer} → LeastCall printed [] (9 ∷ []) r (0 ∷ []) → ⊥
not_least_written_on_14 q =
    let refused = least.turned_down (wrong_assignment [] (9 ∷ []) least_bytes (λ z. omega arith)) in
    let e : ◌≡◌ {A = ℕ} 0 9 = ap (λ (l : List ℕ). get_or l 0 0) (least_call_unique q refused).1 in
    omega arith

pub not_least_written_on_2 : {r : least.Answer} → LeastCall (9 ∷ []) [] (9 ∷ []) r (0 ∷ []) → ⊥
not_least_written_on_2 q =
    let e : ◌≡◌ {A = ℕ} 0 9 = ap (λ (l : List ℕ). get_or l 0 0) (least_call_unique q (least.turned_down (bad_file cut_header))).1 in omega arith

-- ---- a founded in 0..1; a ≥ 1, twice; a constraint that nothing meets

abbrev unmet : List ℕ
unmet = variable 1 0 0 0 1 (2 ∷ 0 ∷ 4 ∷ 1 ∷ 0 ∷ 0 ∷ 1 ∷ 2 ∷ 0 ∷ 4 ∷ 1 ∷ 0 ∷ 0 ∷ 1 ∷ 3 ∷ 0 ∷ 3 ∷ 1 ∷ 0 ∷ 1 ∷ [])

unmet_read : Accepts unmet (program unmet 4)
unfolding plans.computes
unmet_read = read unmet 4 (lit≤ tt) refl (lit≤ tt) refl

unmet_rule : Checked unmet (small 0 []) 1 (rule 0) []
unfolding plans.computes
unmet_rule = unmet_checked (unmet_plan (plan_of _ unmet_read refl refl) 0 (lit< tt) refl refl) 1 refl

module _ {b b' : List ℕ} (h : 12 ≤ length b) where
  -- one that names a constraint before a rule
  pub not_constraint_first : {i : ℕ} → Checks unmet (small 0 []) b (constraint i) b' → ⊥
  not_constraint_first q = let e = ap word (checks_unique q (unmet_rule b h)).0 in omega arith

  -- one that names the last unmet rule
  pub not_last_unmet : Checks unmet (small 0 []) b (rule 1) b' → ⊥
  not_last_unmet q = let e = ap first (checks_unique q (unmet_rule b h)).0 in omega arith

-- one that writes though a rule is not met
pub not_written_on_rule : {b' : List ℕ} → Checks unmet (small 0 []) (replicate 12 9) (rule 0) b' → get_or b' 0 0 ≡ 0 → ⊥
not_written_on_rule {b'} q z =
    let e : get_or b' 0 0 ≡ 9 = ap (λ (l : List ℕ). get_or l 0 0) (checks_unique q (unmet_rule (replicate 12 9) (lit≤ tt))).1 in
    omega arith

-- ---- a and b founded in 0..5; a ≥ b + 1, b ≥ a: no model

abbrev endless : List ℕ
endless = variable 1 0 0 0 5 (variable 1 0 0 0 5 (2 ∷ 0 ∷ 8 ∷ 1 ∷ 0 ∷ 0 ∷ 1 ∷ 1 ∷ 0 ∷ 0 ∷ 1 ∷ 2 ∷ 0 ∷ 8 ∷ 1 ∷ 1 ∷ 0 ∷ 0 ∷ 0 ∷ 0 ∷ 0 ∷ 1 ∷ []))

abbrev two : ℕ → ℕ → List ℕ
two x y = small x (small y [])

endless_read : Accepts endless (program endless 4)
unfolding plans.computes
endless_read = read endless 4 (lit≤ tt) refl (lit≤ tt) refl

endless_none : (b : List ℕ) → 4 ≤ length b → LeastCall endless (two 5 5) b least.none b
unfolding plans.computes
endless_none b h =
    no_model (called least_bytes (two 5 5) b endless_read refl h) (all_inside (program endless 4) (assigned (two 5 5)) refl)
    (subst (λ (o : searching.Outcome). Right (program endless 4) (reduct (program endless 4)) (assigned (two 5 5)) o) ended
    (search_right (accepts_promises endless_read) (plan_of (two 5 5) endless_read refl refl).ranges 16))
  where
    ended : searching.search 16 (program endless 4) (assigned (two 5 5)) ≡ searching.none
    ended = refl

-- one that writes though it says none: the values that it has reached
pub not_written_on_none : LeastCall endless (two 5 5) (two 9 9) least.none (two 5 5) → ⊥
not_written_on_none q =
    let e : ◌≡◌ {A = ℕ} 5 9 = ap (λ (l : List ℕ). get_or l 1 0) (least_call_unique q (endless_none (two 9 9) (lit≤ tt))).1 in
    omega arith
