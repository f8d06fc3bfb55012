-- What the code finds of the rules and constraints of a file.
use Rattle.std.specs.Prelude.{ℕ, ◌<◌, ◌≡◌, List, length, Option, Some, None}
use Rattle.program.specs.Program.{Program}
use Rattle.program.specs.Readings.{Valuation}
use Rattle.reader.specs.Parts.{constraint_place}
use Rattle.meaning.specs.Stable.{RuleMet}
use Rattle.verdict.specs.Checks.{FirstUnmet}
use Rattle.checker.specs.declared.rules.Rules.{Rules}
use Rattle.checker.specs.declared.rules.Rules.TheVariants as rules

-- the first of n that is not met, or that all are
abbrev pub UnmetIs : (ℕ → Type 0) → ℕ → Option ℕ → Type 0
UnmetIs Met n (Some i) = FirstUnmet Met n i
UnmetIs Met n None = (i : ℕ) → i < n → Met i

-- the first rule of the program of a file that is not met; or that all are, and where the constraints begin
abbrev pub RulesAre : List ℕ → Program → Valuation → Rules → Type 0
RulesAre s P θ (rules.Unmet i) = FirstUnmet (RuleMet P θ) (length P.rules) i
RulesAre s P θ (rules.Met at) = (at ≡ constraint_place s P 0) × ((i : ℕ) → i < length P.rules → RuleMet P θ i)
