-- Document 02, wish 1, "Shared minutes": "Add rule form 8: as form 1, after a first term of variable byte 0, which names no variable, op 3 and a divisor from 1
-- to 1,000. It gives the smallest whole number not below the sum, c included, over the divisor." Plans with such rules: what the check answers, from
-- the bytes of each file and assignment, and what it writes, whatever the lent report holds before.
use Rattle.std.specs.Prelude.{ℕ, List, [], ◌∷◌}
use Rattle.plans.specs.Starred.{variable, small}
use Rattle.plans.specs.StarredChecks.{Checked}
use Rattle.verdict.specs.Checks.{rule, unfounded, stable}

-- a variable in 0..10, and one in -10..10
abbrev natural : ℕ → List ℕ → List ℕ
natural kind rest = variable kind 0x00 0x00 0x00 0x0A rest

abbrev whole : ℕ → List ℕ → List ℕ
whole kind rest = variable kind 0xFF 0xF6 0x00 0x0A rest

-- d founded, x, y, z standard in 0..10; d ≥ (x + y + z) / 3
abbrev pub third : List ℕ
third =
    natural 1 (natural 0 (natural 0 (natural 0
    (0x02 ∷ 0x00 ∷ 0x14 ∷ 0x08 ∷ 0x00 ∷ 0x00 ∷ 0x00 ∷ 0x00 ∷ 0x03 ∷ 0x00 ∷ 0x03
    ∷ 0x01 ∷ 0x00 ∷ 0x00 ∷ 0x01 ∷ 0x02 ∷ 0x00 ∷ 0x00 ∷ 0x01 ∷ 0x03 ∷ 0x00 ∷ 0x00 ∷ 0x01 ∷ []))))

-- a founded, x standard in -10..10; a ≥ (c + x) / 2
abbrev pub half : ℕ → List ℕ
half c = whole 1 (whole 0 (0x02 ∷ 0x00 ∷ 0x0C ∷ 0x08 ∷ 0x00 ∷ 0x00 ∷ c ∷ 0x00 ∷ 0x03 ∷ 0x00 ∷ 0x02 ∷ 0x01 ∷ 0x00 ∷ 0x00 ∷ 0x01 ∷ []))

-- a, b founded in 0..10; a ≥ (5 + b) / 2; b ≥ a
abbrev pub circle : List ℕ
circle =
    natural 1 (natural 1
    (0x02 ∷ 0x00 ∷ 0x0C ∷ 0x08 ∷ 0x00 ∷ 0x00 ∷ 0x05 ∷ 0x00 ∷ 0x03 ∷ 0x00 ∷ 0x02 ∷ 0x01 ∷ 0x00 ∷ 0x00 ∷ 0x01
    ∷ 0x02 ∷ 0x00 ∷ 0x08 ∷ 0x01 ∷ 0x01 ∷ 0x00 ∷ 0x00 ∷ 0x00 ∷ 0x00 ∷ 0x00 ∷ 0x01 ∷ []))

-- w standard, d founded, x standard in 0..10; d ≥ x / 2
abbrev pub beside : List ℕ
beside = natural 0 (natural 1 (natural 0 (0x02 ∷ 0x00 ∷ 0x0C ∷ 0x08 ∷ 0x01 ∷ 0x00 ∷ 0x00 ∷ 0x00 ∷ 0x03 ∷ 0x00 ∷ 0x02 ∷ 0x02 ∷ 0x00 ∷ 0x00 ∷ 0x01 ∷ [])))

pub record SharedChecks : Type 0 where
  -- "a third of a sum": 4 + 1 + 2 over 3 is 3
  pub third_stable : Checked third (small 3 (small 4 (small 1 (small 2 [])))) 4 stable []
  pub third_unmet : Checked third (small 2 (small 4 (small 1 (small 2 [])))) 4 (rule 0) []
  pub third_shown : Checked third (small 4 (small 4 (small 1 (small 2 [])))) 4 (unfounded 1 3)
      (0x00 ∷ 0x00 ∷ 0x00 ∷ 0x03 ∷ 0x01 ∷ 0x01 ∷ 0x00 ∷ 0x04 ∷ 0x02 ∷ 0x01 ∷ 0x00 ∷ 0x01 ∷ 0x03 ∷ 0x01 ∷ 0x00 ∷ 0x02 ∷ [])
  -- "the smallest whole number not below": 7 over 2 is 4, -7 over 2 is -3, -8 over 2 is -4
  pub half_of_7 : Checked (half 0) (small 4 (small 7 [])) 2 stable []
  pub half_of_7_unmet : Checked (half 0) (small 3 (small 7 [])) 2 (rule 0) []
  pub half_below : Checked (half 0) (0xFF ∷ 0xFD ∷ 0xFF ∷ 0xF9 ∷ []) 2 stable []
  pub half_below_unmet : Checked (half 0) (0xFF ∷ 0xFC ∷ 0xFF ∷ 0xF9 ∷ []) 2 (rule 0) []
  pub half_even : Checked (half 0) (0xFF ∷ 0xFC ∷ 0xFF ∷ 0xF8 ∷ []) 2 stable []
  -- "c included": 1 + 1 over 2 is 1, and 2 is more than that
  pub c_divided : Checked (half 1) (small 1 (small 1 [])) 2 stable []
  pub c_divided_shown : Checked (half 1) (small 2 (small 1 [])) 2 (unfounded 1 1) (0x00 ∷ 0x00 ∷ 0x00 ∷ 0x01 ∷ 0x01 ∷ 0x01 ∷ 0x00 ∷ 0x01 ∷ [])
  -- a circle is sound as far as it is lifted: 5 over 2 is 3, then 4, then 5, and 5 + 5 over 2 is 5
  pub circle_stable : Checked circle (small 5 (small 5 [])) 2 stable []
  pub circle_shown : Checked circle (small 6 (small 6 [])) 2 (unfounded 2 0) (0x00 ∷ 0x00 ∷ 0x00 ∷ 0x05 ∷ 0x01 ∷ 0x00 ∷ 0x00 ∷ 0x05 ∷ [])
  -- "which names no variable": there is no condition on variable 0
  pub beside_shown : Checked beside (small 5 (small 4 (small 6 []))) 3 (unfounded 1 1) (0x01 ∷ 0x00 ∷ 0x00 ∷ 0x03 ∷ 0x02 ∷ 0x01 ∷ 0x00 ∷ 0x06 ∷ [])
