-- Document 01, "Sample plans": those marked *, by the bytes of each file and assignment. Their bounds are values of the least
-- model here; their conditions belong to the report and are not stated.
use Rattle.std.specs.Prelude.{ℕ, ◌*◌, ◌<◌, ◌≡◌, List, [], ◌∷◌, ℤ, pos, neg_ℤ, length}
use Rattle.program.specs.Program.{Program}
use Rattle.program.specs.Reading.{Accepts}
use Rattle.meaning.specs.Founded.{Within, Least}
use Rattle.meaning.specs.Reduct.{system}
use Rattle.meaning.specs.Stable.{assigned, RuleMet, Meets, Stable}
use Rattle.program.specs.Readings.{valued}

-- ---- what a plan says of a file s and an assignment a

-- the file is accepted as the program P, and the assignment is one of P's variables, in their ranges
pub record Plan (s a : List ℕ) (P : Program) : Type 0 where
  pub accepts : Accepts s P
  pub long : length a ≡ 2 * length P.variables
  pub ranges : Within (system P) (assigned a)

pub record StablePlan (s a : List ℕ) : Type 0 where
  pub means : Program
  pub plan : Plan s a means
  pub stable : Stable means (assigned a)

-- the assignment meets every rule and constraint, but the least model is m
pub record UnfoundedPlan (s a : List ℕ) (m : List ℤ) : Type 0 where
  pub means : Program
  pub plan : Plan s a means
  pub meets : Meets means (assigned a)
  pub least : Least (system means) (assigned a) (valued m)
  pub not_stable : Stable means (assigned a) → ⊥

-- rule i is the first that is not met
pub record UnmetPlan (s a : List ℕ) (i : ℕ) : Type 0 where
  pub means : Program
  pub plan : Plan s a means
  pub among : i < length means.rules
  pub unmet : RuleMet means (assigned a) i → ⊥
  pub first : (j : ℕ) → j < i → RuleMet means (assigned a) j

-- ---- the files

-- the field of a variable: kind, low and high, before the rest of the file
abbrev pub variable : ℕ → ℕ → ℕ → ℕ → ℕ → List ℕ → List ℕ
variable kind a b c d rest = 0x01 ∷ 0x00 ∷ 0x05 ∷ kind ∷ a ∷ b ∷ c ∷ d ∷ rest

-- two bytes of a value of 0..255
abbrev pub small : ℕ → List ℕ → List ℕ
small n rest = 0x00 ∷ n ∷ rest

-- the printing program's file: s standard, a and b founded, all in 0..1; a ≥ 1 if s ≥ 1; a ≥ 1 if b ≥ 1; b ≥ 1 if a ≥ 1
abbrev pub printed : List ℕ
printed =
    0x01 ∷ 0x00 ∷ 0x05 ∷ 0x00 ∷ 0x00 ∷ 0x00 ∷ 0x00 ∷ 0x01
    ∷ 0x01 ∷ 0x00 ∷ 0x05 ∷ 0x01 ∷ 0x00 ∷ 0x00 ∷ 0x00 ∷ 0x01
    ∷ 0x01 ∷ 0x00 ∷ 0x05 ∷ 0x01 ∷ 0x00 ∷ 0x00 ∷ 0x00 ∷ 0x01
    ∷ 0x02 ∷ 0x00 ∷ 0x08 ∷ 0x06 ∷ 0x01 ∷ 0x00 ∷ 0x01 ∷ 0x00 ∷ 0x01 ∷ 0x00 ∷ 0x01
    ∷ 0x02 ∷ 0x00 ∷ 0x08 ∷ 0x06 ∷ 0x01 ∷ 0x00 ∷ 0x01 ∷ 0x02 ∷ 0x01 ∷ 0x00 ∷ 0x01
    ∷ 0x02 ∷ 0x00 ∷ 0x08 ∷ 0x06 ∷ 0x02 ∷ 0x00 ∷ 0x01 ∷ 0x01 ∷ 0x01 ∷ 0x00 ∷ 0x01
    ∷ []

-- 000 example 2: a, b, c founded in -10..10; a ≥ b - c + 7; c ≥ 5
abbrev pub example2 : List ℕ
example2 =
    variable 1 0xFF 0xF6 0x00 0x0A (variable 1 0xFF 0xF6 0x00 0x0A (variable 1 0xFF 0xF6 0x00 0x0A
    (0x02 ∷ 0x00 ∷ 0x0C ∷ 0x01 ∷ 0x00 ∷ 0x00 ∷ 0x07 ∷ 0x01 ∷ 0x00 ∷ 0x00 ∷ 0x01 ∷ 0x02 ∷ 0x00 ∷ 0xFF ∷ 0xFF
    ∷ 0x02 ∷ 0x00 ∷ 0x04 ∷ 0x01 ∷ 0x02 ∷ 0x00 ∷ 0x05
    ∷ [])))

-- 003 example 1: a, b, s, x, y; a and b founded and s standard in 0..100, x and y founded in 0..1; a ≥ b + s; b ≥ 8 if x ≥ 1;
-- x ≥ 1 if y < 1 and a ≥ 5
abbrev pub example1 : List ℕ
example1 =
    variable 1 0x00 0x00 0x00 0x64 (variable 1 0x00 0x00 0x00 0x64 (variable 0 0x00 0x00 0x00 0x64
    (variable 1 0x00 0x00 0x00 0x01 (variable 1 0x00 0x00 0x00 0x01
    (0x02 ∷ 0x00 ∷ 0x0C ∷ 0x01 ∷ 0x00 ∷ 0x00 ∷ 0x00 ∷ 0x01 ∷ 0x00 ∷ 0x00 ∷ 0x01 ∷ 0x02 ∷ 0x00 ∷ 0x00 ∷ 0x01
    ∷ 0x02 ∷ 0x00 ∷ 0x08 ∷ 0x06 ∷ 0x01 ∷ 0x00 ∷ 0x08 ∷ 0x03 ∷ 0x01 ∷ 0x00 ∷ 0x01
    ∷ 0x02 ∷ 0x00 ∷ 0x0C ∷ 0x06 ∷ 0x03 ∷ 0x00 ∷ 0x01 ∷ 0x04 ∷ 0x02 ∷ 0x00 ∷ 0x01 ∷ 0x00 ∷ 0x01 ∷ 0x00 ∷ 0x05
    ∷ [])))))

-- 003 example 4: x1, x2, x3 founded in 0..10; x1 ≥ max(x2, x3) - 2; x2 ≥ x1 + 1; x3 ≥ x1 + 2; x1 ≥ 3
abbrev pub example4 : List ℕ
example4 =
    variable 1 0x00 0x00 0x00 0x0A (variable 1 0x00 0x00 0x00 0x0A (variable 1 0x00 0x00 0x00 0x0A
    (0x02 ∷ 0x00 ∷ 0x0C ∷ 0x02 ∷ 0x00 ∷ 0xFF ∷ 0xFE ∷ 0x01 ∷ 0x00 ∷ 0x00 ∷ 0x00 ∷ 0x02 ∷ 0x00 ∷ 0x00 ∷ 0x00
    ∷ 0x02 ∷ 0x00 ∷ 0x08 ∷ 0x01 ∷ 0x01 ∷ 0x00 ∷ 0x01 ∷ 0x00 ∷ 0x00 ∷ 0x00 ∷ 0x01
    ∷ 0x02 ∷ 0x00 ∷ 0x08 ∷ 0x01 ∷ 0x02 ∷ 0x00 ∷ 0x02 ∷ 0x00 ∷ 0x00 ∷ 0x00 ∷ 0x01
    ∷ 0x02 ∷ 0x00 ∷ 0x04 ∷ 0x01 ∷ 0x00 ∷ 0x00 ∷ 0x03
    ∷ [])))

-- a founded in 0..1; a ≥ 1 if a < 1
abbrev pub contrary : List ℕ
contrary = variable 1 0x00 0x00 0x00 0x01 (0x02 ∷ 0x00 ∷ 0x08 ∷ 0x06 ∷ 0x00 ∷ 0x00 ∷ 0x01 ∷ 0x00 ∷ 0x02 ∷ 0x00 ∷ 0x01 ∷ [])

-- ---- the plans, two bytes a value

pub record StarredPlans : Type 0 where
  -- "Empty file, empty assignment: stable."
  pub empty_stable : StablePlan [] []
  -- "The file above with 1, 1, 1: stable. With 0, 1, 1: as printed." (a and b fall to 0)
  pub printed_stable : StablePlan printed (small 1 (small 1 (small 1 [])))
  pub printed_least : UnfoundedPlan printed (small 0 (small 1 (small 1 []))) (pos 0 ∷ pos 0 ∷ pos 0 ∷ [])
  -- "000 example 2 ..: -8, -10, 5 is stable. -7, -10, 5: bound a -8"
  pub example2_stable : StablePlan example2 (0xFF ∷ 0xF8 ∷ 0xFF ∷ 0xF6 ∷ small 5 [])
  pub example2_least : UnfoundedPlan example2 (0xFF ∷ 0xF9 ∷ 0xFF ∷ 0xF6 ∷ small 5 []) (neg_ℤ (pos 8) ∷ neg_ℤ (pos 10) ∷ pos 5 ∷ [])
  -- "003 example 1 ..: s 9, a 17, b 8, x 1, y 0 is stable. s 3 instead: bounds a 3, b 0, x 0"
  pub example1_stable : StablePlan example1 (small 17 (small 8 (small 9 (small 1 (small 0 [])))))
  pub example1_least : UnfoundedPlan example1 (small 17 (small 8 (small 3 (small 1 (small 0 []))))) (pos 3 ∷ pos 0 ∷ pos 3 ∷ pos 0 ∷ pos 0 ∷ [])
  -- "003 example 4, ranges 0..10: 3, 4, 5 is stable. 4, 5, 6: bounds 3, 4, 5"
  pub example4_stable : StablePlan example4 (small 3 (small 4 (small 5 [])))
  pub example4_least : UnfoundedPlan example4 (small 4 (small 5 (small 6 []))) (pos 3 ∷ pos 4 ∷ pos 5 ∷ [])
  -- "a in 0..1, a ≥ 1 if a < 1: 0 gives `rule 0`; 1 gives bound 0"
  pub contrary_unmet : UnmetPlan contrary (small 0 []) 0
  pub contrary_least : UnfoundedPlan contrary (small 1 []) (pos 0 ∷ [])
