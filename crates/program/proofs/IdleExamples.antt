-- Document 02, wish 2: small files with idle rules, and their neighbours, shown of the specification; and wrong readers that they rule out.
use Prim.Native.Nat.{ℕ}
use mathlib.Core.Path.{◌≡◌, refl, sym, ap}
use mathlib.Core.List.{List, [], ◌∷◌}
use lib.Dec.{lit<, lit≤}
use native.Mathlib.Omega.{arith}
use Rattle.program.specs.Reading.{Answer, accepted, refused, Reads}
use Rattle.program.proofs.Examples as examples
use Rattle.program.proofs.Examples.{accepted_not, place_of, answers}
use Rattle.program.proofs.Decide.{whole_by, accepted_by, refused_by}

-- ---- a founded in 0..10, b founded in -10..10; rule 0 is a ≥ |b|, and b is mixed there. It offends where a rule 1 draws an edge from b to a

abbrev sized : List ℕ → List ℕ
sized rest = 2 ∷ 0 ∷ 8 ∷ 5 ∷ 0 ∷ 0 ∷ 0 ∷ 1 ∷ 0 ∷ 0 ∷ 0 ∷ rest

abbrev pair : List ℕ → List ℕ
pair rest = 1 ∷ 0 ∷ 5 ∷ 1 ∷ 0 ∷ 0 ∷ 0 ∷ 10 ∷ 1 ∷ 0 ∷ 5 ∷ 1 ∷ 255 ∷ 246 ∷ 0 ∷ 10 ∷ rest

-- rule 1: b ≥ 2a + c, for c from -256 to -1 by its low byte
abbrev pub twice : ℕ → List ℕ
twice c = pair (sized (2 ∷ 0 ∷ 8 ∷ 1 ∷ 1 ∷ 255 ∷ c ∷ 0 ∷ 0 ∷ 0 ∷ 2 ∷ []))

-- c is -30: at most 20 - 30, which is b's low; -29: one more than that
pub at_low : Reads (twice 226) (accepted 2 2 0)
unfolding examples.computes
at_low = accepted_by (whole_by (twice 226) 4 (lit≤ tt) refl (lit≤ tt)) refl

pub above_low : Reads (twice 227) (refused 13 16)
unfolding examples.computes
above_low = refused_by (whole_by (twice 227) 4 (lit≤ tt) refl (lit≤ tt)) 0 (lit< tt) refl refl

-- rule 1: b ≥ (c + a) / 2
abbrev pub half : ℕ → List ℕ
half c = pair (sized (2 ∷ 0 ∷ 12 ∷ 8 ∷ 1 ∷ 255 ∷ c ∷ 0 ∷ 3 ∷ 0 ∷ 2 ∷ 0 ∷ 0 ∷ 0 ∷ 1 ∷ []))

-- c is -30: -20 over 2 is -10; -29: -19 over 2 is -9, rounded up
pub half_at_low : Reads (half 226) (accepted 2 2 0)
unfolding examples.computes
half_at_low = accepted_by (whole_by (half 226) 4 (lit≤ tt) refl (lit≤ tt)) refl

pub half_above_low : Reads (half 227) (refused 13 16)
unfolding examples.computes
half_above_low = refused_by (whole_by (half 227) 4 (lit≤ tt) refl (lit≤ tt)) 0 (lit< tt) refl refl

-- p standard in 0..4, and rule 1: b ≥ a if these literals hold, its value having so many bytes
abbrev carry : ℕ → List ℕ → List ℕ
carry bytes literals = pair (1 ∷ 0 ∷ 5 ∷ 0 ∷ 0 ∷ 0 ∷ 0 ∷ 4 ∷ sized (2 ∷ 0 ∷ bytes ∷ 7 ∷ 1 ∷ 0 ∷ 0 ∷ 0 ∷ 0 ∷ 0 ∷ 0 ∷ literals))

abbrev pub if_p : ℕ → ℕ → List ℕ
if_p op n = carry 12 (2 ∷ op ∷ 0 ∷ n ∷ [])

-- "one needing 9 from a variable ending at 4": p ≥ 9; and p ≥ 4, which p can meet
pub needs_9 : Reads (if_p 1 9) (accepted 3 2 0)
unfolding examples.computes
needs_9 = accepted_by (whole_by (if_p 1 9) 5 (lit≤ tt) refl (lit≤ tt)) refl

pub needs_4 : Reads (if_p 1 4) (refused 13 24)
unfolding examples.computes
needs_4 = refused_by (whole_by (if_p 1 4) 5 (lit≤ tt) refl (lit≤ tt)) 0 (lit< tt) refl refl

-- p < 0, and p < 1, which p can meet
pub below_0 : Reads (if_p 2 0) (accepted 3 2 0)
unfolding examples.computes
below_0 = accepted_by (whole_by (if_p 2 0) 5 (lit≤ tt) refl (lit≤ tt)) refl

pub below_1 : Reads (if_p 2 1) (refused 13 24)
unfolding examples.computes
below_1 = refused_by (whole_by (if_p 2 1) 5 (lit≤ tt) refl (lit≤ tt)) 0 (lit< tt) refl refl

-- b ≥ 0, which b can meet, and p ≥ 9
abbrev pub one_of_two : List ℕ
one_of_two = carry 16 (1 ∷ 1 ∷ 0 ∷ 0 ∷ 2 ∷ 1 ∷ 0 ∷ 9 ∷ [])

pub one_never_holds : Reads one_of_two (accepted 3 2 0)
unfolding examples.computes
one_never_holds = accepted_by (whole_by one_of_two 5 (lit≤ tt) refl (lit≤ tt)) refl

-- ---- a founded in low..high; a ≥ |a| + c. a is mixed there, and in its own component

abbrev own : ℕ → List ℕ → List ℕ
own c rest = 2 ∷ 0 ∷ 8 ∷ 5 ∷ 0 ∷ 255 ∷ c ∷ 0 ∷ 0 ∷ 0 ∷ 0 ∷ rest

-- low from -256 to -1 by its low byte
abbrev within : ℕ → ℕ → List ℕ → List ℕ
within low high rest = 1 ∷ 0 ∷ 5 ∷ 1 ∷ 255 ∷ low ∷ 0 ∷ high ∷ rest

abbrev pub own_size : ℕ → ℕ → ℕ → List ℕ
own_size low high c = within low high (own c [])

-- -5..5: 5 - 10 is a's low, 5 - 9 is one more
pub even_at_low : Reads (own_size 251 5 246) (accepted 1 1 0)
unfolding examples.computes
even_at_low = accepted_by (whole_by (own_size 251 5 246) 2 (lit≤ tt) refl (lit≤ tt)) refl

pub even_above_low : Reads (own_size 251 5 247) (refused 13 8)
unfolding examples.computes
even_above_low = refused_by (whole_by (own_size 251 5 247) 2 (lit≤ tt) refl (lit≤ tt)) 0 (lit< tt) refl refl

-- -4..5, the high further from 0: 5 - 9 is a's low, 5 - 8 is one more
pub high_at_low : Reads (own_size 252 5 247) (accepted 1 1 0)
unfolding examples.computes
high_at_low = accepted_by (whole_by (own_size 252 5 247) 2 (lit≤ tt) refl (lit≤ tt)) refl

pub high_above_low : Reads (own_size 252 5 248) (refused 13 8)
unfolding examples.computes
high_above_low = refused_by (whole_by (own_size 252 5 248) 2 (lit≤ tt) refl (lit≤ tt)) 0 (lit< tt) refl refl

-- -5..4, the low further from 0: 5 - 10 is a's low, 5 - 9 is one more
pub low_at_low : Reads (own_size 251 4 246) (accepted 1 1 0)
unfolding examples.computes
low_at_low = accepted_by (whole_by (own_size 251 4 246) 2 (lit≤ tt) refl (lit≤ tt)) refl

pub low_above_low : Reads (own_size 251 4 247) (refused 13 8)
unfolding examples.computes
low_above_low = refused_by (whole_by (own_size 251 4 247) 2 (lit≤ tt) refl (lit≤ tt)) 0 (lit< tt) refl refl

-- an idle rule at 8, a ≥ |a| - 10, before the offending one at 19, a ≥ |a| - 9
abbrev pub idle_first : List ℕ
idle_first = within 251 5 (own 246 (own 247 []))

pub place_of_later : Reads idle_first (refused 13 19)
unfolding examples.computes
place_of_later = refused_by (whole_by idle_first 3 (lit≤ tt) refl (lit≤ tt)) 1 (lit< tt) refl refl

-- ---- wrong readers, by the answer that each gives for one of these files

module _ (read : List ℕ → Answer) (right : (s : List ℕ) → Reads s (read s)) where
  -- a file that is turned down is not accepted, and the other way round
  not_accepted : (s : List ℕ) {n at a b c : ℕ} → Reads s (refused n at) → read s ≡ accepted a b c → ⊥
  not_accepted s h e = accepted_not _ _ _ _ _ (sym (answers read right s h e))

  not_refused : (s : List ℕ) {n at a b c : ℕ} → Reads s (accepted a b c) → read s ≡ refused n at → ⊥
  not_refused s h e = accepted_not _ _ _ _ _ (answers read right s h e)

  -- one that calls a rule idle when the most it gives is one more than its head's low
  pub not_one_more : read (own_size 251 5 247) ≡ accepted 1 1 0 → ⊥
  not_one_more = not_accepted _ even_above_low

  -- one that asks for less than the head's low: a rule that gives the low at most still offends
  pub not_less_alone : read (own_size 252 5 247) ≡ refused 13 8 → ⊥
  not_less_alone = not_refused _ high_at_low

  -- one that takes the least that a rule can give, here 0 - 29, for the most
  pub not_the_least : read (twice 227) ≡ accepted 2 2 0 → ⊥
  not_the_least = not_accepted _ above_low

  -- one that asks for the head's high: 10 is no more than b's high
  pub not_the_high : read (if_p 1 4) ≡ accepted 3 2 0 → ⊥
  not_the_high = not_accepted _ needs_4

  -- one where an idle rule still draws its edges
  pub not_drawn : read (twice 226) ≡ refused 13 16 → ⊥
  not_drawn = not_refused _ at_low

  -- one where an idle rule draws none, but may offend: its place, alone and before another
  pub not_offending : read (own_size 251 5 246) ≡ refused 13 8 → ⊥
  not_offending = not_refused _ even_at_low

  pub not_the_idle_place : read idle_first ≡ refused 13 8 → ⊥
  not_the_idle_place e = let q = ap place_of (answers read right _ place_of_later e) in omega arith

  -- one that looks at what a rule amounts to and not at its literals
  pub not_without_literals : read (if_p 1 9) ≡ refused 13 24 → ⊥
  not_without_literals = not_refused _ needs_9

  -- one that passes over the literals of op 2
  pub not_without_op_2 : read (if_p 2 0) ≡ refused 13 24 → ⊥
  not_without_op_2 = not_refused _ below_0

  -- one for which a literal that can hold is enough
  pub not_one_literal : read one_of_two ≡ refused 13 24 → ⊥
  not_one_literal = not_refused _ one_never_holds

  -- one that strikes a rule that is not idle, since its literal does not hold everywhere
  pub not_struck : read (if_p 2 1) ≡ accepted 3 2 0 → ⊥
  not_struck = not_accepted _ below_1

  -- one that reads a mixed size at the high alone, and one at the low alone
  pub not_high_alone : read (own_size 251 4 247) ≡ accepted 1 1 0 → ⊥
  not_high_alone = not_accepted _ low_above_low

  pub not_low_alone : read (own_size 252 5 248) ≡ accepted 1 1 0 → ⊥
  not_low_alone = not_accepted _ high_above_low

  -- one that rounds form 8 down
  pub not_rounded_down : read (half 227) ≡ accepted 2 2 0 → ⊥
  not_rounded_down = not_accepted _ half_above_low
