-- Document 02, wish 4: "the stable assignments are those of the input". More than that: "for every assignment and lent report the check answers the same and
-- writes the same bytes for both files, but for the number in `rule` and `constraint`; `least` likewise".
use Rattle.std.specs.Prelude.{ℕ, ◌≡◌, ◌↔◌, List}
use Rattle.program.specs.Program.{Program}
use Rattle.program.specs.Reading.{Accepts}
use Rattle.program.specs.Readings.{Valuation}
use Rattle.meaning.specs.Stable.{Stable}
use Rattle.meaning.specs.LeastCall.{LeastCall}
use Rattle.meaning.specs.LeastCall as least
use Rattle.verdict.specs.Checks.{Answer, rule, constraint, unfounded, stable, Checks}

-- the same answer of the check, but for the number of the unmet rule or constraint
pub data SameButNumbers : Answer → Answer → Type 0 where
  same : {r : Answer} → SameButNumbers r r
  rules : {i j : ℕ} → SameButNumbers (rule i) (rule j)
  constraints : {i j : ℕ} → SameButNumbers (constraint i) (constraint j)

-- of an input s and the output o that normalize writes for it (law `normalizes-unchanged`)
pub record Unchanged (s o : List ℕ) : Type 0 where
  -- both are accepted files
  pub input : (P : Program) × Accepts s P
  pub output : (Q : Program) × Accepts o Q
  pub stables : (P Q : Program) → Accepts s P → Accepts o Q → (θ : Valuation) → Stable P θ ↔ Stable Q θ
  -- the assignment a, and the lent report or buffer c
  pub checked : {a c c₁ c₂ : List ℕ} {r r' : Answer} → Checks s a c r c₁ → Checks o a c r' c₂ → SameButNumbers r r' × (c₁ ≡ c₂)
  pub least : {a c c₁ c₂ : List ℕ} {r r' : least.Answer} → LeastCall s a c r c₁ → LeastCall o a c r' c₂ → (r ≡ r') × (c₁ ≡ c₂)
  -- so an assignment that the check calls stable or unfounded for the one file it calls so for the other, with the same counts and the same report
  pub called_stable : (a c c' : List ℕ) → Checks s a c stable c' ↔ Checks o a c stable c'
  pub called_unfounded : (a c c' : List ℕ) (n k : ℕ) → Checks s a c (unfounded n k) c' ↔ Checks o a c (unfounded n k) c'
