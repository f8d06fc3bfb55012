-- Document 02, wish 3, "Arrival times": "Kind 2 .. is founded from above, by document 000's mirror. A rule heading into it says 'at most what I give'. A body
-- variable is kept when moving it away from its starting end makes the rule demand more; directions, idleness, conditions and bounds follow. In a rule for such a
-- head plain terms swap rising and falling and literals do not, standard variables included". "Its bound entry has mark 3". "Form 8 still rounds up." Plans with
-- such variables: what the check answers, from the bytes of each file and assignment, and what it writes, whatever the lent report holds before.
use Rattle.std.specs.Prelude.{ℕ, List, [], ◌∷◌}
use Rattle.plans.specs.Starred.{variable, small}
use Rattle.plans.specs.StarredChecks.{Checked}
use Rattle.plans.specs.IdlePlans.{below}
use Rattle.verdict.specs.Checks.{refusal, rule, unfounded, stable, Checks}

-- ---- fields

-- a variable in 0..100, in 0..10, in -10..10, in 0..1
abbrev hundred : ℕ → List ℕ → List ℕ
hundred kind rest = variable kind 0x00 0x00 0x00 0x64 rest

abbrev pub natural : ℕ → List ℕ → List ℕ
natural kind rest = variable kind 0x00 0x00 0x00 0x0A rest

abbrev whole : ℕ → List ℕ → List ℕ
whole kind rest = variable kind 0xFF 0xF6 0x00 0x0A rest

abbrev bit : ℕ → List ℕ → List ℕ
bit kind rest = variable kind 0x00 0x00 0x00 0x01 rest

-- founded from above: in -1..0, in -10..0, in -100..0
abbrev bit_above : List ℕ → List ℕ
bit_above rest = variable 2 0xFF 0xFF 0x00 0x00 rest

abbrev ten_above : List ℕ → List ℕ
ten_above rest = variable 2 0xFF 0xF6 0x00 0x00 rest

abbrev hundred_above : List ℕ → List ℕ
hundred_above rest = variable 2 0xFF 0x9C 0x00 0x00 rest

-- the rules of form 1 for the head h: c, c + v and c - v, for c from 0 to 255
abbrev pub constant : ℕ → ℕ → List ℕ → List ℕ
constant h c rest = 0x02 ∷ 0x00 ∷ 0x04 ∷ 0x01 ∷ h ∷ 0x00 ∷ c ∷ rest

abbrev pub plus : ℕ → ℕ → ℕ → List ℕ → List ℕ
plus h c v rest = 0x02 ∷ 0x00 ∷ 0x08 ∷ 0x01 ∷ h ∷ 0x00 ∷ c ∷ v ∷ 0x00 ∷ 0x00 ∷ 0x01 ∷ rest

abbrev pub minus : ℕ → ℕ → ℕ → List ℕ → List ℕ
minus h c v rest = 0x02 ∷ 0x00 ∷ 0x08 ∷ 0x01 ∷ h ∷ 0x00 ∷ c ∷ v ∷ 0x00 ∷ 0xFF ∷ 0xFF ∷ rest

-- the rule of form 5: c + |v|
abbrev pub size : ℕ → ℕ → ℕ → List ℕ → List ℕ
size h c v rest = 0x02 ∷ 0x00 ∷ 0x08 ∷ 0x05 ∷ h ∷ 0x00 ∷ c ∷ v ∷ 0x00 ∷ 0x00 ∷ 0x00 ∷ rest

-- the rule of form 6 with one literal: c, in two bytes, if v op n
abbrev pub if : ℕ → ℕ → ℕ → ℕ → ℕ → ℕ → List ℕ → List ℕ
if h c d v op n rest = 0x02 ∷ 0x00 ∷ 0x08 ∷ 0x06 ∷ h ∷ c ∷ d ∷ v ∷ op ∷ 0x00 ∷ n ∷ rest

-- ---- the files

-- t0, t1, t2 founded from above in 0..100; t0 ≤ 5; t1 ≤ t0 + 10; t2 ≤ t1 + 10; t1 ≤ t2 + 10; t0 ≤ t1 + 10
abbrev pub arrival : List ℕ
arrival = hundred 2 (hundred 2 (hundred 2 (constant 0 5 (plus 1 10 0 (plus 2 10 1 (plus 1 10 2 (plus 0 10 1 [])))))))

-- the same, in a circle of no minutes: t0 ≤ 5; t1 ≤ t0 + 10; t1 ≤ t2; t2 ≤ t1
abbrev pub together : List ℕ
together = hundred 2 (hundred 2 (hundred 2 (constant 0 5 (plus 1 10 0 (plus 1 0 2 (plus 2 0 1 []))))))

-- a, d founded from below, b from above, x standard, in -10..10; a ≥ -b; b ≤ -a; a ≥ x; d ≥ 1 - b
abbrev pub both_kinds : List ℕ
both_kinds = whole 1 (whole 2 (whole 1 (whole 0 (minus 0 0 1 (minus 1 0 0 (plus 0 0 3 (minus 2 1 1 [])))))))

-- s standard, a founded from below, b from above, in 0..1; a ≥ 1 if s ≥ 1; a ≥ 1 if b < 1; b ≤ 0 if a ≥ 1
abbrev pub by_literals : List ℕ
by_literals = bit 0 (bit 1 (bit 2 (if 1 0x00 0x01 0 1 1 (if 1 0x00 0x01 2 2 1 (if 2 0x00 0x00 1 1 1 [])))))

-- a founded from below, b from above, in 0..10; b ≤ a; a ≥ 2
abbrev pub apart : List ℕ
apart = natural 1 (natural 2 (plus 1 0 0 (constant 0 2 [])))

-- a, b founded from above in 0..10; a ≤ 5 - b; b ≤ 5
abbrev pub against : List ℕ
against = natural 2 (natural 2 (minus 0 5 1 (constant 1 5 [])))

-- document 01's starred plans, mirrored: s standard in 0..1, a and b founded from above in -1..0; a ≤ -1 if s ≥ 1; a ≤ -1 if b < 0; b ≤ -1 if a < 0
abbrev pub printed_above : List ℕ
printed_above = bit 0 (bit_above (bit_above (if 1 0xFF 0xFF 0 1 1 (if 1 0xFF 0xFF 2 2 0 (if 2 0xFF 0xFF 1 2 0 [])))))

-- a, b, c founded from above in -10..10; a ≤ b - c - 7; c ≤ -5
abbrev pub example2_above : List ℕ
example2_above =
    whole 2 (whole 2 (whole 2
    (0x02 ∷ 0x00 ∷ 0x0C ∷ 0x01 ∷ 0x00 ∷ 0xFF ∷ 0xF9 ∷ 0x01 ∷ 0x00 ∷ 0x00 ∷ 0x01 ∷ 0x02 ∷ 0x00 ∷ 0xFF ∷ 0xFF
    ∷ 0x02 ∷ 0x00 ∷ 0x04 ∷ 0x01 ∷ 0x02 ∷ 0xFF ∷ 0xFB
    ∷ [])))

-- a, b, s, x, y; a and b founded from above in -100..0, s standard in 0..100, x and y founded from above in -1..0; a ≤ b - s; b ≤ -8 if x < 0;
-- x ≤ -1 if y ≥ 0 and a < -4
abbrev pub example1_above : List ℕ
example1_above =
    hundred_above (hundred_above (hundred 0 (bit_above (bit_above
    (0x02 ∷ 0x00 ∷ 0x0C ∷ 0x01 ∷ 0x00 ∷ 0x00 ∷ 0x00 ∷ 0x01 ∷ 0x00 ∷ 0x00 ∷ 0x01 ∷ 0x02 ∷ 0x00 ∷ 0xFF ∷ 0xFF
    ∷ if 1 0xFF 0xF8 3 2 0
    (0x02 ∷ 0x00 ∷ 0x0C ∷ 0x06 ∷ 0x03 ∷ 0xFF ∷ 0xFF ∷ 0x04 ∷ 0x01 ∷ 0x00 ∷ 0x00 ∷ 0x00 ∷ 0x02 ∷ 0xFF ∷ 0xFC
    ∷ []))))))

-- x1, x2, x3 founded from above in -10..0; x1 ≤ min(x2, x3) + 2; x2 ≤ x1 - 1; x3 ≤ x1 - 2; x1 ≤ -3
abbrev pub example4_above : List ℕ
example4_above =
    ten_above (ten_above (ten_above
    (0x02 ∷ 0x00 ∷ 0x0C ∷ 0x03 ∷ 0x00 ∷ 0x00 ∷ 0x02 ∷ 0x01 ∷ 0x00 ∷ 0x00 ∷ 0x00 ∷ 0x02 ∷ 0x00 ∷ 0x00 ∷ 0x00
    ∷ 0x02 ∷ 0x00 ∷ 0x08 ∷ 0x01 ∷ 0x01 ∷ 0xFF ∷ 0xFF ∷ 0x00 ∷ 0x00 ∷ 0x00 ∷ 0x01
    ∷ 0x02 ∷ 0x00 ∷ 0x08 ∷ 0x01 ∷ 0x02 ∷ 0xFF ∷ 0xFE ∷ 0x00 ∷ 0x00 ∷ 0x00 ∷ 0x01
    ∷ 0x02 ∷ 0x00 ∷ 0x04 ∷ 0x01 ∷ 0x00 ∷ 0xFF ∷ 0xFD
    ∷ [])))

-- a founded from above in -1..0; a ≤ -1 if a ≥ 0
abbrev pub contrary_above : List ℕ
contrary_above = bit_above (if 0 0xFF 0xFF 0 1 0 [])

-- a founded from above, x standard in -10..10; a ≤ x / 2
abbrev pub half_above : List ℕ
half_above = whole 2 (whole 0 (0x02 ∷ 0x00 ∷ 0x0C ∷ 0x08 ∷ 0x00 ∷ 0x00 ∷ 0x00 ∷ 0x00 ∷ 0x03 ∷ 0x00 ∷ 0x02 ∷ 0x01 ∷ 0x00 ∷ 0x00 ∷ 0x01 ∷ []))

-- a founded from above in -5..5; a ≤ |a| + c
abbrev pub own_above : ℕ → List ℕ
own_above c = variable 2 0xFF 0xFB 0x00 0x05 (size 0 c 0 [])

-- a in 0..10 and b in -10..10, both founded from above; a ≤ |b|; b ≤ a + c
abbrev pub sized_above : ℕ → List ℕ
sized_above c = natural 2 (whole 2 (size 0 0 1 (plus 1 c 0 [])))

-- a founded from below in 0..10, b from above in -10..10; a ≥ |b|; b ≤ a
abbrev pub sized_apart : List ℕ
sized_apart = natural 1 (whole 2 (size 0 0 1 (plus 1 0 0 [])))

-- ---- the plans

-- two and three values of 0..255
abbrev pub two : ℕ → ℕ → List ℕ
two x y = small x (small y [])

abbrev pub three : ℕ → ℕ → ℕ → List ℕ
three x y z = small x (small y (small z []))

pub record ArrivalChecks : Type 0 where
  -- "Earliest arrival is pushed down from its high": the earliest times are 5, 15, 25
  pub arrival_stable : Checked arrival (three 5 15 25) 3 stable []
  -- t1 and t2 too low: `least 1 15`, `least 2 25`, and t0, which is kept and not in the set, is at least 5
  pub arrival_shown : Checked arrival (three 5 9 19) 3 (unfounded 2 1) (0x01 ∷ 0x03 ∷ small 15 (0x02 ∷ 0x03 ∷ small 25 (0x00 ∷ 0x02 ∷ small 5 [])))
  -- all too low: no condition is left
  pub arrival_all : Checked arrival (three 4 14 24) 3 (unfounded 3 0) (0x00 ∷ 0x03 ∷ small 5 (0x01 ∷ 0x03 ∷ small 15 (0x02 ∷ 0x03 ∷ small 25 [])))
  -- "A rule heading into it says 'at most what I give'": 16 is more than 5 + 10, 26 is more than 15 + 10
  pub arrival_unmet : Checked arrival (three 5 16 25) 3 (rule 1) []
  pub arrival_late : Checked arrival (three 5 15 26) 3 (rule 2) []
  -- a circle does not hold itself down
  pub together_stable : Checked together (three 5 15 15) 3 stable []
  pub together_shown : Checked together (three 5 9 9) 3 (unfounded 2 1) (0x01 ∷ 0x03 ∷ small 15 (0x02 ∷ 0x03 ∷ small 15 (0x00 ∷ 0x02 ∷ small 5 [])))
  -- both kinds in one circle, both kept: a rises in the rule for b, and b falls in the rules for a and d. x at most 3
  pub both_stable : Checked both_kinds (small 3 (below 3 (small 4 (small 3 [])))) 4 stable []
  pub both_shown : Checked both_kinds (small 5 (below 5 (small 6 (small 3 [])))) 4 (unfounded 3 1)
      (0x00 ∷ 0x00 ∷ small 3 (0x01 ∷ 0x03 ∷ below 3 (0x02 ∷ 0x00 ∷ small 4 (0x03 ∷ 0x01 ∷ small 3 []))))
  -- and through literals, which do not swap: both lifted by s, both at their starting ends, and both held by each other alone, with s at most 0
  pub literals_stable : Checked by_literals (three 1 1 0) 3 stable []
  pub literals_start_stable : Checked by_literals (three 0 0 1) 3 stable []
  pub literals_shown : Checked by_literals (three 0 1 0) 3 (unfounded 2 1) (0x01 ∷ 0x00 ∷ small 0 (0x02 ∷ 0x03 ∷ small 1 (0x00 ∷ 0x01 ∷ small 0 [])))
  -- a founded from below falls in a rule for a head founded from above: it is not kept, and in the set it still is at least 5
  pub apart_stable : Checked apart (two 2 2) 2 stable []
  pub apart_shown : Checked apart (two 5 4) 2 (unfounded 2 1) (0x00 ∷ 0x00 ∷ small 2 (0x01 ∷ 0x03 ∷ small 5 (0x00 ∷ 0x02 ∷ small 5 [])))
  -- b founded from above rises there: it is not kept, and in the set it still is at most 3
  pub against_stable : Checked against (two 0 5) 2 stable []
  pub against_shown : Checked against (two 1 3) 2 (unfounded 2 1) (0x00 ∷ 0x03 ∷ small 2 (0x01 ∷ 0x03 ∷ small 5 (0x01 ∷ 0x01 ∷ small 3 [])))
  -- "The file above with 1, 1, 1: stable. With 0, 1, 1: as printed.", mirrored: `least 1 0`, `least 2 0`, `when 0 <= 0`
  pub printed_stable : Checked printed_above (small 1 (below 1 (below 1 []))) 3 stable []
  pub printed_shown : Checked printed_above (small 0 (below 1 (below 1 []))) 3 (unfounded 2 1)
      (0x01 ∷ 0x03 ∷ small 0 (0x02 ∷ 0x03 ∷ small 0 (0x00 ∷ 0x01 ∷ small 0 [])))
  -- "-8, -10, 5 is stable. -7, -10, 5: bound a -8; b at most -10, c at least 5.", mirrored: bound a 8; b at least 10, c at most -5
  pub example2_stable : Checked example2_above (small 8 (small 10 (below 5 []))) 3 stable []
  pub example2_shown : Checked example2_above (small 7 (small 10 (below 5 []))) 3 (unfounded 1 2)
      (0x00 ∷ 0x03 ∷ small 8 (0x01 ∷ 0x02 ∷ small 10 (0x02 ∷ 0x01 ∷ below 5 [])))
  -- "s 9, a 17, b 8, x 1, y 0 is stable. s 3 instead: bounds a 3, b 0, x 0; s at most 3, y at least 0.", mirrored: y at most 0
  pub example1_stable : Checked example1_above (below 17 (below 8 (small 9 (below 1 (small 0 []))))) 5 stable []
  pub example1_shown : Checked example1_above (below 17 (below 8 (small 3 (below 1 (small 0 []))))) 5 (unfounded 3 2)
      (0x00 ∷ 0x03 ∷ below 3 (0x01 ∷ 0x03 ∷ small 0 (0x03 ∷ 0x03 ∷ small 0 (0x02 ∷ 0x01 ∷ small 3 (0x04 ∷ 0x01 ∷ small 0 [])))))
  -- "3, 4, 5 is stable. 4, 5, 6: bounds 3, 4, 5, no condition.", mirrored
  pub example4_stable : Checked example4_above (below 3 (below 4 (below 5 []))) 3 stable []
  pub example4_shown : Checked example4_above (below 4 (below 5 (below 6 []))) 3 (unfounded 3 0)
      (0x00 ∷ 0x03 ∷ below 3 (0x01 ∷ 0x03 ∷ below 4 (0x02 ∷ 0x03 ∷ below 5 [])))
  -- "0 gives `rule 0`; 1 gives bound 0, a at least 1.", mirrored: a at most -1
  pub contrary_unmet : Checked contrary_above (small 0 []) 1 (rule 0) []
  pub contrary_shown : Checked contrary_above (below 1 []) 1 (unfounded 1 1) (0x00 ∷ 0x03 ∷ small 0 (0x00 ∷ 0x01 ∷ below 1 []))
  -- "Form 8 still rounds up": -7 over 2 is -3, 7 over 2 is 4. x, though standard, falls there: at least -7
  pub half_stable : Checked half_above (below 3 (below 7 [])) 2 stable []
  pub half_unmet : Checked half_above (below 2 (below 7 [])) 2 (rule 0) []
  pub half_shown : Checked half_above (below 4 (below 7 [])) 2 (unfounded 1 1) (0x00 ∷ 0x03 ∷ below 3 (0x01 ∷ 0x02 ∷ below 7 []))
  pub half_of_7 : Checked half_above (two 4 7) 2 stable []
  pub half_of_7_unmet : Checked half_above (two 5 7) 2 (rule 0) []
  -- the least that |a| + 5 is, is a's high: an idle rule. a is mixed in it, with both conditions
  pub own_stable : Checked (own_above 5) (small 5 []) 1 stable []
  pub own_shown : Checked (own_above 5) (small 0 []) 1 (unfounded 1 2) (0x00 ∷ 0x03 ∷ small 5 (0x00 ∷ 0x01 ∷ small 0 (0x00 ∷ 0x02 ∷ small 0 [])))
  -- |a| + 4 can be less: the file is not valid, whatever else is lent
  pub own_refused : (a b : List ℕ) → Checks (own_above 4) a b (refusal 13 8) b
  -- "edges run to kept and mixed variables": a, founded from above, falls in the rule for b, so that each reaches the other
  pub sized_refused : (a b : List ℕ) → Checks (sized_above 9) a b (refusal 13 16) b
  -- the least that a + 10 is, is b's high: an idle rule, which draws no edge. With b in the set it asks that a is at least 7
  pub sized_idle_stable : Checked (sized_above 10) (two 10 10) 2 stable []
  pub sized_idle_shown : Checked (sized_above 10) (two 7 7) 2 (unfounded 1 1) (0x01 ∷ 0x03 ∷ small 10 (0x00 ∷ 0x02 ∷ small 7 []))
  -- a, which is founded from below, falls in the rule for b: no edge leads back
  pub sized_stable : Checked sized_apart (two 3 3) 2 stable []
  pub sized_shown : Checked sized_apart (two 3 2) 2 (unfounded 2 3)
      (0x00 ∷ 0x00 ∷ small 2 (0x01 ∷ 0x03 ∷ small 3 (0x00 ∷ 0x02 ∷ small 3 (0x01 ∷ 0x01 ∷ small 2 (0x01 ∷ 0x02 ∷ small 2 [])))))
