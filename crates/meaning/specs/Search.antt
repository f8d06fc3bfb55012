-- The least model of a program, read by any reckoning R, found by raising the head of the first rule that is not met: for computing samples. It stands in no
-- contract.
use Rattle.std.specs.Prelude.{ℕ, zero, suc, Bool, true, false, cond, List, [], ◌∷◌, ℤ, pos, negsuc, set, Option, Some, None}
use Rattle.program.specs.Program.{Rule, Program, rule_in}
use Rattle.program.specs.Variables.{far, not_past, started}
use Rattle.program.specs.Readings.{Valuation, valued}
use Rattle.program.specs.declared.Variable.{Variable}
use Rattle.meaning.specs.Reduct.{Reckoning, reduct}

-- where the values begin, from variable i on
unfoldable pub starts : Valuation → ℕ → List Variable → List ℤ
starts θ i [] = []
starts θ i (x ∷ xs) = started x (θ i) ∷ starts θ (suc i) xs

-- every rule is met, or the number of the first that is not, and what it gives
pub data Step : Type 0 where
  closed : Step
  raise : ℕ → ℤ → Step

-- rule i gives so much, and its head x has b
abbrev pub ask : Variable → ℕ → Option ℤ → ℤ → Step → Step
ask x i None b next = next
ask x i (Some a) b next = cond (not_past x a b) next (raise i a)

-- among these rules, of which the first has number i
unfoldable pub first_unmet : Reckoning → Valuation → Valuation → ℕ → List Rule → Step
first_unmet R θ m i [] = closed
first_unmet R θ m i (r ∷ rs) = let next = first_unmet R θ m (suc i) rs in ask (R.variable r.head) i (R.gives i m θ) (m r.head) next

pub data Outcome : Type 0 where
  found : List ℤ → Outcome
  none unfinished : Outcome

-- the variable's range goes so far
abbrev pub allows : Variable → ℤ → Bool
allows x a = not_past x a (far x)

-- the search goes on from m, if the raised head's range allows it
abbrev pub raised : (List ℤ → Outcome) → Bool → List ℤ → Outcome
raised go true m = go m
raised go false m = none

-- the value is computed before the search goes on, once for all that read it
abbrev pub computed : (ℤ → Outcome) → ℤ → Outcome
computed go (pos n) = go (pos n)
computed go (negsuc n) = go (negsuc n)

abbrev pub act : Program → Reckoning → (List ℤ → Outcome) → List ℤ → Step → Outcome
act P R go m closed = found m
act P R go m (raise i a) = let h = (rule_in P.rules i).head in computed (λ z. raised go (allows (R.variable h) z) (set m h z)) a

-- at most k steps from m
unfoldable pub iterate : Program → Reckoning → Valuation → ℕ → List ℤ → Outcome
iterate P R θ zero m = unfinished
iterate P R θ (suc k) m = act P R (iterate P R θ k) m (first_unmet R θ (valued m) zero P.rules)

-- a reckoning that narrows the program has its starting ends
abbrev pub search_in : ℕ → Program → Reckoning → Valuation → Outcome
search_in k P R θ = iterate P R θ k (starts θ zero P.variables)

-- in the reduct
abbrev pub search : ℕ → Program → Valuation → Outcome
search k P = search_in k P (reduct P)
