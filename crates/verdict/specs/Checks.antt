-- Document 01, "Verdicts and the report": what the call check answers, and the report afterwards.
use Rattle.std.specs.Prelude.{ℕ, ◌<◌, List, T, length, Result, Ok, Err}
use Rattle.program.specs.Program.{Program}
use Rattle.meaning.specs.Founded.{Within, Least}
use Rattle.meaning.specs.Reduct.{system}
use Rattle.meaning.specs.Stable.{assigned, RuleMet, ConstraintMet, Meets, Stable}
use Rattle.meaning.specs.Calls.{Refuses, Called, lengths, denial_number, denial_place}
use Rattle.meaning.specs.LeastCall.{FirstOutside}
use Rattle.report.specs.Report.{shown, bounds, conditions, reported}
use Rattle.meaning.specs.declared.Denied.{Denied}
use Rattle.verdict.specs.declared.Verdict.{Verdict}
use Rattle.program.specs.Readings.{Valuation}
use Rattle.verdict.specs.declared.Verdict.TheVariants as verdict

-- an answer of the call check, with document 01's words: "a refusal, or a verdict with what belongs to it"
pub data Answer : Type 0 where
  refusal : ℕ → ℕ → Answer
  range : ℕ → Answer
  rule : ℕ → Answer
  constraint : ℕ → Answer
  unfounded : ℕ → ℕ → Answer
  stable : Answer

-- the word, number and place of each case of the code's answer
abbrev pub answer_of : Result Verdict Denied → Answer
answer_of (Err why) = refusal (denial_number why) (denial_place why)
answer_of (Ok (verdict.Range v)) = range v
answer_of (Ok (verdict.Rule i)) = rule i
answer_of (Ok (verdict.Constraint i)) = constraint i
answer_of (Ok (verdict.Unfounded n k)) = unfounded n k
answer_of (Ok verdict.Stable) = stable

-- i is the first of n that is not met
pub record FirstUnmet (Met : ℕ → Type 0) (n i : ℕ) : Type 0 where
  pub among : i < n
  pub unmet : Met i → ⊥
  pub first : (j : ℕ) → j < i → Met j

-- the verdict on an assignment θ, and the report b afterwards. "The first that applies: `range` and first variable; `rule` and first unmet
-- rule; `constraint` and first unmet constraint; `unfounded` and two counts; `stable`. Only `unfounded` writes."
pub data Judged (P : Program) (θ : Valuation) (b : List ℕ) : Answer → List ℕ → Type 0 where
  outside : {v : ℕ} → FirstOutside P θ v → Judged P θ b (range v) b
  rule_unmet : {i : ℕ} → Within (system P) θ → FirstUnmet (RuleMet P θ) (length P.rules) i → Judged P θ b (rule i) b
  constraint_unmet : {i : ℕ} → Within (system P) θ → ((j : ℕ) → j < length P.rules → RuleMet P θ j)
      → FirstUnmet (ConstraintMet P θ) (length P.constraints) i → Judged P θ b (constraint i) b
  some_shown : {m : Valuation} → Meets P θ → Least (system P) θ m → (v : ℕ) × T (shown P θ m v)
      → Judged P θ b (unfounded (length (bounds P θ m)) (length (conditions P θ m))) (reported P θ m b)
  is_stable : Stable P θ → Judged P θ b stable b

-- "lent buffer under 12 × variables (check)"
abbrev pub check_bytes : ℕ
check_bytes = 12

-- what the call answers for a file, an assignment and a lent report, and the report afterwards
pub data Checks (s a b : List ℕ) : Answer → List ℕ → Type 0 where
  turned_down : {n at : ℕ} → Refuses (lengths check_bytes a b) s n at → Checks s a b (refusal n at) b
  judged : {P : Program} {r : Answer} {b' : List ℕ} → Called (lengths check_bytes a b) s P → Judged P (assigned a) b r b' → Checks s a b r b'
