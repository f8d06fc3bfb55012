-- Where the rules of a file stand, by the tables of a run.
use Rattle.std.specs.Prelude.{ℕ, ◌<◌, ◌≤◌, ◌≡◌, List, length, get_or}
use Rattle.program.specs.Program.{Program, rule_in}
use Rattle.program.specs.Reading.{AcceptedAs, Accepts}
use Rattle.program.specs.declared.Counts.{Counts}
use Rattle.reader.specs.Parts.{rule_place}
use Rattle.tables.specs.Tabled.{MaskOf}

-- rule i stands at this place and has this mask
pub record RuleAt (s : List ℕ) (P : Program) (i at mask : ℕ) : Type 0 where
  pub accepts : Accepts s P
  pub among : i < length P.rules
  pub placed : at ≡ rule_place s P i
  pub masked : MaskOf P (rule_in P.rules i) mask

-- the tables have the place and the mask of each of the first n rules
abbrev pub FirstPlaced : List ℕ → Program → ℕ → List ℕ → List ℕ → Type 0
FirstPlaced s P n offsets masks = (i : ℕ) → i < n → RuleAt s P i (get_or offsets i 0) (get_or masks i 0)

-- of every rule
pub record Placed (s : List ℕ) (P : Program) (offsets masks : List ℕ) : Type 0 where
  pub accepts : Accepts s P
  pub stands : FirstPlaced s P (length P.rules) offsets masks

-- the tables are those of a file that is accepted with these counts
pub record Laid (s : List ℕ) (k : Counts) (offsets masks : List ℕ) : Type 0 where
  pub accepted : AcceptedAs s k
  pub offsets_reach : k.rules ≤ length offsets
  pub masks_reach : k.rules ≤ length masks
  pub placed : (P : Program) → Accepts s P → Placed s P offsets masks

-- the table has the place of each rule of the program that a file means
abbrev pub OffsetsOf : List ℕ → List ℕ → Type 0
OffsetsOf s offsets = (P : Program) → Accepts s P → (i : ℕ) → i < length P.rules → get_or offsets i 0 ≡ rule_place s P i
