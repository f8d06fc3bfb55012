-- Document 01, "Sample plans": what the check answers on those marked *, from the bytes of each file and assignment, and what it writes,
-- whatever the lent report holds before.
use Rattle.std.specs.Prelude.{ℕ, ◌*◌, ◌≤◌, List, [], ◌∷◌, ◌++◌, length, drop}
use Rattle.plans.specs.Starred.{small, printed, example2, example1, example4, contrary}
use Rattle.verdict.specs.Checks.{Answer, rule, unfounded, stable, check_bytes, Checks}

-- for every lent report with room for n variables the answer is r, and the report then starts with these bytes and is unchanged after them
abbrev pub Checked : List ℕ → List ℕ → ℕ → Answer → List ℕ → Type 0
Checked s a n r bytes = (b : List ℕ) → check_bytes * n ≤ length b → Checks s a b r (bytes ++ drop (length bytes) b)

pub record StarredChecks : Type 0 where
  -- "Empty file, empty assignment: stable."
  pub empty_stable : Checked [] [] 0 stable []
  -- "The file above with 1, 1, 1: stable. With 0, 1, 1: as printed." `most 1 0`, `most 2 0`, `when 0 <= 0`
  pub printed_stable : Checked printed (small 1 (small 1 (small 1 []))) 3 stable []
  pub printed_shown : Checked printed (small 0 (small 1 (small 1 []))) 3 (unfounded 2 1)
      (0x01 ∷ 0x00 ∷ 0x00 ∷ 0x00 ∷ 0x02 ∷ 0x00 ∷ 0x00 ∷ 0x00 ∷ 0x00 ∷ 0x01 ∷ 0x00 ∷ 0x00 ∷ [])
  -- "000 example 2 ..: -8, -10, 5 is stable. -7, -10, 5: bound a -8; b at most -10, c at least 5."
  pub example2_stable : Checked example2 (0xFF ∷ 0xF8 ∷ 0xFF ∷ 0xF6 ∷ small 5 []) 3 stable []
  pub example2_shown : Checked example2 (0xFF ∷ 0xF9 ∷ 0xFF ∷ 0xF6 ∷ small 5 []) 3 (unfounded 1 2)
      (0x00 ∷ 0x00 ∷ 0xFF ∷ 0xF8 ∷ 0x01 ∷ 0x01 ∷ 0xFF ∷ 0xF6 ∷ 0x02 ∷ 0x02 ∷ 0x00 ∷ 0x05 ∷ [])
  -- "003 example 1 ..: s 9, a 17, b 8, x 1, y 0 is stable. s 3 instead: bounds a 3, b 0, x 0; s at most 3, y at least 0."
  pub example1_stable : Checked example1 (small 17 (small 8 (small 9 (small 1 (small 0 []))))) 5 stable []
  pub example1_shown : Checked example1 (small 17 (small 8 (small 3 (small 1 (small 0 []))))) 5 (unfounded 3 2)
      (0x00 ∷ 0x00 ∷ 0x00 ∷ 0x03 ∷ 0x01 ∷ 0x00 ∷ 0x00 ∷ 0x00 ∷ 0x03 ∷ 0x00 ∷ 0x00 ∷ 0x00 ∷ 0x02 ∷ 0x01 ∷ 0x00 ∷ 0x03 ∷ 0x04 ∷ 0x02 ∷ 0x00 ∷ 0x00 ∷ [])
  -- "003 example 4, ranges 0..10: 3, 4, 5 is stable. 4, 5, 6: bounds 3, 4, 5, no condition."
  pub example4_stable : Checked example4 (small 3 (small 4 (small 5 []))) 3 stable []
  pub example4_shown : Checked example4 (small 4 (small 5 (small 6 []))) 3 (unfounded 3 0)
      (0x00 ∷ 0x00 ∷ 0x00 ∷ 0x03 ∷ 0x01 ∷ 0x00 ∷ 0x00 ∷ 0x04 ∷ 0x02 ∷ 0x00 ∷ 0x00 ∷ 0x05 ∷ [])
  -- "a in 0..1, a ≥ 1 if a < 1: 0 gives `rule 0`; 1 gives bound 0, a at least 1."
  pub contrary_unmet : Checked contrary (small 0 []) 1 (rule 0) []
  pub contrary_shown : Checked contrary (small 1 []) 1 (unfounded 1 1) (0x00 ∷ 0x00 ∷ 0x00 ∷ 0x00 ∷ 0x00 ∷ 0x02 ∷ 0x00 ∷ 0x01 ∷ [])
