-- Document 02, wish 2, "Rules that can do nothing": "An idle rule draws no edge and is never the offending one of refusal 13. Verdicts use the same
-- reduct as before." Plans with idle rules: what the check answers, from the bytes of each file and assignment, and what it writes, whatever the lent
-- report holds before.
use Rattle.std.specs.Prelude.{ℕ, ◌-◌, List, [], ◌∷◌}
use Rattle.plans.specs.Starred.{variable, small}
use Rattle.plans.specs.StarredChecks.{Checked}
use Rattle.verdict.specs.Checks.{range, rule, unfounded, stable}

-- a founded in -5..5; a ≥ |a| - 10, which is at most -5
abbrev own : List ℕ → List ℕ
own rest = variable 1 0xFF 0xFB 0x00 0x05 (0x02 ∷ 0x00 ∷ 0x08 ∷ 0x05 ∷ 0x00 ∷ 0xFF ∷ 0xF6 ∷ 0x00 ∷ 0x00 ∷ 0x00 ∷ 0x00 ∷ rest)

abbrev pub own_size : List ℕ
own_size = own []

-- and a ≥ 2
abbrev pub own_and_2 : List ℕ
own_and_2 = own (0x02 ∷ 0x00 ∷ 0x04 ∷ 0x01 ∷ 0x00 ∷ 0x00 ∷ 0x02 ∷ [])

-- a founded in 0..10, b founded in -10..10, then other variables; a ≥ |b|, then other rules
abbrev pair : List ℕ → List ℕ
pair rest = variable 1 0x00 0x00 0x00 0x0A (variable 1 0xFF 0xF6 0x00 0x0A rest)

abbrev sized : List ℕ → List ℕ
sized rest = 0x02 ∷ 0x00 ∷ 0x08 ∷ 0x05 ∷ 0x00 ∷ 0x00 ∷ 0x00 ∷ 0x01 ∷ 0x00 ∷ 0x00 ∷ 0x00 ∷ rest

-- b ≥ 2a - 30, which is at most -10
abbrev pub twice : List ℕ
twice = pair (sized (0x02 ∷ 0x00 ∷ 0x08 ∷ 0x01 ∷ 0x01 ∷ 0xFF ∷ 0xE2 ∷ 0x00 ∷ 0x00 ∷ 0x00 ∷ 0x02 ∷ []))

-- "needing 9 from a variable ending at 4": p standard in 0..4; b ≥ a if p ≥ 9
abbrev pub needs_9 : List ℕ
needs_9 =
    pair (variable 0 0x00 0x00 0x00 0x04
    (sized (0x02 ∷ 0x00 ∷ 0x0C ∷ 0x07 ∷ 0x01 ∷ 0x00 ∷ 0x00 ∷ 0x00 ∷ 0x00 ∷ 0x00 ∷ 0x00 ∷ 0x02 ∷ 0x01 ∷ 0x00 ∷ 0x09 ∷ [])))

-- two bytes of -n, for n from 1 to 256
abbrev pub below : ℕ → List ℕ → List ℕ
below n rest = 0xFF ∷ (256 - n) ∷ rest

pub record IdleChecks : Type 0 where
  -- a is stable at its low alone: else its bound is that low, and a is mixed in its own rule, with both conditions
  pub own_stable : Checked own_size (below 5 []) 1 stable []
  pub own_shown : Checked own_size (small 0 []) 1 (unfounded 1 2) (0x00 ∷ 0x00 ∷ below 5 (0x00 ∷ 0x01 ∷ small 0 (0x00 ∷ 0x02 ∷ small 0 [])))
  -- the rule after an idle one keeps its number
  pub own_unmet : Checked own_and_2 (small 0 []) 1 (rule 1) []
  -- b is stable at its low alone, and a is then 10
  pub twice_stable : Checked twice (small 10 (below 10 [])) 2 stable []
  -- b in the set: the idle rule asks a, which is kept and not in the set, to be at most 3
  pub twice_shown : Checked twice (small 3 (below 3 [])) 2 (unfounded 1 1) (0x01 ∷ 0x00 ∷ below 10 (0x00 ∷ 0x01 ∷ small 3 []))
  -- both in the set: the idle rule asks nothing of a
  pub twice_both : Checked twice (small 5 (below 3 [])) 2 (unfounded 2 2)
      (0x00 ∷ 0x00 ∷ small 3 (0x01 ∷ 0x00 ∷ below 10 (0x01 ∷ 0x01 ∷ below 3 (0x01 ∷ 0x02 ∷ below 3 []))))
  -- the idle rule, rule 1, is not met only outside the ranges: 22 - 30 is above -10
  pub twice_outside : Checked twice (small 11 (below 10 [])) 2 (range 0) []
  -- the idle rule asks both its variables, the one that it carries and that of its literal
  pub needs_9_stable : Checked needs_9 (small 10 (below 10 (small 4 []))) 3 stable []
  pub needs_9_shown : Checked needs_9 (small 3 (below 3 (small 4 []))) 3 (unfounded 1 2)
      (0x01 ∷ 0x00 ∷ below 10 (0x00 ∷ 0x01 ∷ small 3 (0x02 ∷ 0x01 ∷ small 4 [])))
