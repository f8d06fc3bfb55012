-- Document 02, wish 7, "Half-filled plans": what bounds answers and writes, by the bytes of each file and its ranges, whatever the lent buffer holds before.
-- The files come in two kinds: 1, founded from below, and 2, its mirror.
use Rattle.std.specs.Prelude.{ℕ, ◌*◌, ◌<◌, ◌≤◌, List, [], ◌∷◌, ◌++◌, length, drop}
use Rattle.plans.specs.Starred.{variable, small}
use Rattle.plans.specs.Arrivals.{natural, constant, plus, minus, size, if}
use Rattle.plans.specs.IdlePlans.{below}
use Rattle.lent.specs.BoundsCall.{refusal, bounded, BoundsCall}

-- a lent buffer of two bytes for each of n variables, or more: the call leaves o, and after it the buffer's own bytes. A shorter one: 15, and its own bytes
pub record Written (s g : List ℕ) (n : ℕ) (o : List ℕ) : Type 0 where
  pub call : (b : List ℕ) → 2 * n ≤ length b → BoundsCall s g b bounded (o ++ drop (2 * n) b)
  pub roomless : (b : List ℕ) → length b < 2 * n → BoundsCall s g b (refusal 15 0) b

-- whatever the buffer: this number and place, and its own bytes
abbrev pub Refused : List ℕ → List ℕ → ℕ → ℕ → Type 0
Refused s g n at = (b : List ℕ) → BoundsCall s g b (refusal n at) b

-- ---- ranges and values

-- the range m..n, for m and n from 0 to 255; all of 0..10
abbrev pub range : ℕ → ℕ → List ℕ → List ℕ
range m n rest = small m (small n rest)

abbrev pub all : List ℕ → List ℕ
all rest = range 0 10 rest

-- the values of two and of three variables
abbrev pub two : ℕ → ℕ → List ℕ
two x y = small x (small y [])

abbrev pub three : ℕ → ℕ → ℕ → List ℕ
three x y z = small x (small y (small z []))

-- ---- files

-- a variable in -5..5, in 5..15
abbrev five : ℕ → List ℕ → List ℕ
five kind rest = variable kind 0xFF 0xFB 0x00 0x05 rest

abbrev from_five : ℕ → List ℕ → List ℕ
from_five kind rest = variable kind 0x00 0x05 0x00 0x0F rest

-- the rule for the head h that gives v - 1
abbrev one_less : ℕ → ℕ → List ℕ → List ℕ
one_less h v rest = 0x02 ∷ 0x00 ∷ 0x08 ∷ 0x01 ∷ h ∷ below 1 (v ∷ 0x00 ∷ small 1 rest)

-- a in 0..10
abbrev pub alone : List ℕ
alone = natural 1 []

-- a and b in 0..10; b from a
abbrev pub passed_on : ℕ → List ℕ
passed_on kind = natural kind (natural kind (plus 1 0 0 []))

-- and a from c
abbrev pub kept_on : ℕ → ℕ → List ℕ
kept_on kind c = natural kind (natural kind (constant 0 c (plus 1 0 0 [])))

-- a in 0..10, a ≥ 20; a in 5..15, a ≤ 0
abbrev pub beyond_below : List ℕ
beyond_below = natural 1 (constant 0 20 [])

abbrev pub beyond_above : List ℕ
beyond_above = from_five 2 (constant 0 0 [])

-- a and b in 0..10: a ≥ b + 1, b ≥ a; a ≤ b - 1, b ≤ a
abbrev pub circle_below : List ℕ
circle_below = natural 1 (natural 1 (plus 0 1 1 (plus 1 0 0 [])))

abbrev pub circle_above : List ℕ
circle_above = natural 2 (natural 2 (one_less 0 1 (plus 1 0 0 [])))

-- s standard, a and b, all in 0..10; a from s, b from 10 - s
abbrev pub ends : ℕ → List ℕ
ends kind = natural 0 (natural kind (natural kind (plus 1 0 0 (minus 2 10 0 []))))

-- s standard and a in 0..10; a from 5 if s ≥ 3 (op 1) or s < 3 (op 2)
abbrev pub literal : ℕ → ℕ → List ℕ
literal kind op = natural 0 (natural kind (if 1 0x00 5 0 op 3 []))

-- f and a in 0..10; a from 10 - f
abbrev pub falling : ℕ → List ℕ
falling kind = natural kind (natural kind (minus 1 10 0 []))

-- f of one kind and a of the other, in 0..10; a from f
abbrev pub across : ℕ → ℕ → List ℕ
across one other = natural one (natural other (plus 1 0 0 []))

-- b in -5..5, a in 0..10; a from |b|
abbrev pub sized : ℕ → ℕ → List ℕ
sized b a = five b (natural a (size 1 0 0 []))

-- idle: a in 5..15, a ≥ |b|; a in 0..10, a ≤ |b| + 10
abbrev pub idle_below : List ℕ
idle_below = five 0 (from_five 1 (size 1 0 0 []))

abbrev pub idle_above : List ℕ
idle_above = five 0 (natural 2 (size 1 10 0 []))

-- ---- what is written, and what is turned down

pub record Samples : Type 0 where
  pub empty : Written [] [] 0 []
  -- the start is the declared one, though the range lent to a begins later, and nothing lifts a
  pub starts_below : Written (passed_on 1) (range 4 10 (all [])) 2 (two 0 0)
  pub starts_above : Written (passed_on 2) (range 0 6 (all [])) 2 (two 10 10)
  -- a lift stops at the lent far end
  pub stops_below : Written beyond_below (range 0 5 []) 1 (small 5 [])
  pub stops_above : Written beyond_above (range 8 15 []) 1 (small 8 [])
  pub circles_below : Written circle_below (range 0 5 (range 0 7 [])) 2 (two 5 5)
  pub circles_above : Written circle_above (range 5 10 (range 3 10 [])) 2 (two 5 5)
  -- a kept variable is read at its bound
  pub keeps_below : Written (kept_on 1 3) (range 0 8 (all [])) 2 (two 3 3)
  pub keeps_above : Written (kept_on 2 7) (range 2 10 (all [])) 2 (two 7 7)
  -- a standard one at the end that demands most, by the head's kind where it is plain, and at that whatever the head where it is a literal
  pub ends_below : Written (ends 1) (range 2 7 (all (all []))) 3 (three 2 7 8)
  pub ends_above : Written (ends 2) (range 2 7 (all (all []))) 3 (three 2 2 3)
  pub from_below : Written (literal 1 1) (range 1 4 (all [])) 2 (two 1 5)
  pub from_above_is : Written (literal 2 1) (range 1 4 (all [])) 2 (two 1 5)
  pub under_below : Written (literal 1 2) (range 1 4 (all [])) 2 (two 1 5)
  pub under_above : Written (literal 2 2) (range 1 4 (all [])) 2 (two 1 5)
  -- so is a founded one that is not kept
  pub falls_below : Written (falling 1) (range 3 6 (all [])) 2 (two 0 7)
  pub falls_above : Written (falling 2) (range 4 7 (all [])) 2 (two 10 3)
  pub above_to_below : Written (across 2 1) (range 3 6 (all [])) 2 (two 10 6)
  pub below_to_above : Written (across 1 2) (range 3 6 (all [])) 2 (two 0 3)
  -- a mixed one that is single is read at its value, founded or not
  pub single_below : Written (sized 0 1) (below 3 (below 3 (range 0 9 []))) 2 (below 3 (small 3 []))
  pub single_above : Written (sized 0 2) (below 3 (below 3 (range 1 10 []))) 2 (below 3 (small 3 []))
  pub founded_single_below : Written (sized 1 1) (range 3 3 (all [])) 2 (below 5 (small 3 []))
  pub founded_single_above : Written (sized 2 2) (range 3 3 (all [])) 2 (two 5 3)
  -- one that is not lets the head reach its far end, though its lent range has one sign, and though the rule is idle
  pub mixed_below : Written (sized 0 1) (below 4 (small 2 (range 0 9 []))) 2 (below 4 (small 9 []))
  pub mixed_above : Written (sized 0 2) (below 4 (small 3 (range 1 10 []))) 2 (below 4 (small 1 []))
  pub one_sign_below : Written (sized 0 1) (range 1 5 (range 0 9 [])) 2 (two 1 9)
  pub one_sign_above : Written (sized 0 2) (range 2 5 (range 1 10 [])) 2 (two 2 1)
  pub idle_mixed_below : Written idle_below (below 4 (small 2 (range 5 12 []))) 2 (below 4 (small 12 []))
  pub idle_mixed_above : Written idle_above (below 4 (small 2 (range 1 10 []))) 2 (below 4 (small 1 []))
  -- a single range is not empty
  pub single_fits : Written alone (range 3 3 []) 1 (small 0 [])
  -- the file's own refusal; 14; 20 for an empty range, and for one that leaves its declared one at either end, also a later one
  pub own_refusal : (g : List ℕ) → Refused (9 ∷ []) g 2 0
  pub ranges_missing : Refused alone [] 14 0
  pub ranges_long : Refused alone (range 4 3 (0 ∷ [])) 14 0
  pub empty_range : Refused alone (range 4 3 []) 20 0
  pub leaves_above : Refused alone (range 0 11 []) 20 0
  pub leaves_below : Refused alone (below 1 (small 5 [])) 20 0
  pub second_leaves : Refused (passed_on 1) (all (range 0 11 [])) 20 0
