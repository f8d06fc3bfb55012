-- A step is a round, and the rounds one after the other.
use Prim.Native.Nat.{ℕ, ◌+◌, ◌<◌, ◌≤◌}
use mathlib.Core.Path.{◌≡◌, refl, sym, ap, ◌∙◌, subst}
use mathlib.Core.Bool.{Bool, true, false, ◌||◌, ◌&&◌, cond}
use mathlib.Core.List.{List}
use native.Mathlib.Numerals.{add-one}
use native.Mathlib.Omega.{arith}
use lib.ListN.{length}
use borrow.Author.Tests.{lt-ltb}
use Rattle.format.specs.Limits.{max_variables}
use Rattle.reach.specs.Rows.{row_has}
use Rattle.reach.specs.Stepping.{Lent, TakenIn, Steps, stepped, no_round}
use Rattle.walks.specs.Walk.{BeforeRound, after, Round}
use Rattle.walks.proofs.Walks.{rounded}

-- what is not answered
pub unanswered : {A : Type 0} → false ≡ true → A
unanswered {A} e = absurd (subst (λ (b : Bool). cond b ⊥ (Unit {0})) e tt)

pub stepped_round : {ws ws' : List ℕ} {n k : ℕ} → n ≤ max_variables → k < n → TakenIn ws ws' n k → Round (row_has ws) (row_has ws') n k
stepped_round {ws} {n = n} {k = k} few hk s =
    rounded hk (λ a b ha hb. s.is a b (omega arith) ∙ ap (λ (t : Bool). row_has ws a b || (t && (row_has ws a k && row_has ws k b))) (lt-ltb a n ha))

-- where there is a round, it is done
pub steps_done : {ws ws' : List ℕ} {n k : ℕ} {r : Bool} → Lent ws n → k < n → Steps ws n k r ws' → r ≡ true
steps_done l h (stepped m g s) = refl
steps_done l h (no_round f) = absurd (f l h)

pub steps_long : {ws ws' : List ℕ} {n k : ℕ} {r : Bool} → Steps ws n k r ws' → length ws' ≡ length ws
steps_long (stepped l h s) = s.long
steps_long (no_round f) = refl

-- the rounds of the variables below k
pub record Done (r r' : ℕ → ℕ → Bool) (variables k : ℕ) : Type 0 where
  pub turn : (e : ℕ → ℕ → Bool) → BeforeRound e r variables 0 → BeforeRound e r' variables k

pub none_done : (r : ℕ → ℕ → Bool) (variables : ℕ) → Done r r variables 0
none_done r variables = record { turn = λ e h. h }

pub one_done : {r s t : ℕ → ℕ → Bool} {variables k : ℕ} → Done r s variables k → Round s t variables k → Done r t variables (k + 1)
one_done {t = t} {variables = variables} {k = k} d h = record {
  turn = λ e b. subst (BeforeRound e t variables) (sym (add-one k)) (after (h.turns e (d.turn e b)));
}
