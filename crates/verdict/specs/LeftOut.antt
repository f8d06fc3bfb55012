-- Document 02, wish 2: answers that agree but for what idle rules decide. It serves a law (`checks_alike`, proofs/IdleChecks.antt).
use Rattle.std.specs.Prelude.{ℕ}
use Rattle.verdict.specs.Checks.{Answer, rule, unfounded}

-- the same answer, but for the number of the unmet rule and for how many conditions there are
pub data Alike : Answer → Answer → Type 0 where
  same : {r : Answer} → Alike r r
  rules : {i j : ℕ} → Alike (rule i) (rule j)
  sets : {n k k' : ℕ} → Alike (unfounded n k) (unfounded n k')
