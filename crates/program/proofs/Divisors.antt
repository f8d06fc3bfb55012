-- Document 02, wish 1: small files with rules of form 8, shown of the specification; and wrong readers that they rule out.
use Prim.Native.Nat.{ℕ, zero, suc}
use mathlib.Core.Path.{◌≡◌, refl, sym, ap}
use mathlib.Core.List.{List, [], ◌∷◌}
use lib.Dec.{lit<, lit≤}
use native.Mathlib.Omega.{arith}
use Rattle.program.specs.Reading.{Answer, accepted, refused, Reads, bad_field}
use Rattle.program.proofs.Places.{passed_none, passed_more}
use Rattle.program.proofs.Decide.{whole_by, accepted_by}
use Rattle.program.proofs.Examples as examples
use Rattle.program.proofs.Examples.{variable, accepted_not, answers}

-- so many zeros
abbrev zeros : ℕ → List ℕ
zeros zero = []
zeros (suc n) = 0x00 ∷ zeros n

-- ---- refusal 6: "form 8's n in refusal 6 runs to 17". A rule of so many bytes, all 0 after its form

abbrev long : ℕ → ℕ → List ℕ
long form bytes = 0x02 ∷ 0x00 ∷ bytes ∷ form ∷ zeros 75

-- 17 groups of form 1, and of a form that nobody knows
pub sum_of_17 : Reads (long 1 72) (refused 6 0)
unfolding examples.computes
sum_of_17 = bad_field {k = 0} (passed_none _ (lit≤ tt)) (lit< tt) (lit< tt)

pub unknown_of_17 : Reads (long 9 72) (refused 6 0)
unfolding examples.computes
unknown_of_17 = bad_field {k = 0} (passed_none _ (lit≤ tt)) (lit< tt) (lit< tt)

-- 17 groups of form 8 have a right length, and a first one of op 0; 18 have not
pub divided_of_17 : Reads (long 8 72) (refused 7 0)
unfolding examples.computes
divided_of_17 = bad_field {k = 0} (passed_none _ (lit≤ tt)) (lit< tt) (lit< tt)

pub divided_of_18 : Reads (long 8 76) (refused 6 0)
unfolding examples.computes
divided_of_18 = bad_field {k = 0} (passed_none _ (lit≤ tt)) (lit< tt) (lit< tt)

-- ---- refusals 7, 8 and 10

-- a ≥ 0 over a divisor, by its four bytes
abbrev over : ℕ → ℕ → ℕ → ℕ → List ℕ
over x op high low = variable 1 (0x02 ∷ 0x00 ∷ 0x08 ∷ 0x08 ∷ 0x00 ∷ 0x00 ∷ 0x00 ∷ x ∷ op ∷ high ∷ low ∷ [])

-- "a first term of another variable byte or op 7"
pub divisor_named : Reads (over 1 3 0 2) (refused 7 8)
unfolding examples.computes
divisor_named = bad_field {k = 1} (passed_more (passed_none _ (lit≤ tt)) (lit< tt) refl) (lit< tt) (lit< tt)

pub divisor_plain : Reads (over 0 0 0 2) (refused 7 8)
unfolding examples.computes
divisor_plain = bad_field {k = 1} (passed_more (passed_none _ (lit≤ tt)) (lit< tt) refl) (lit< tt) (lit< tt)

-- "A divisor out of range meets refusal 8": 0, -1 and 1,001
pub divisor_zero : Reads (over 0 3 0 0) (refused 8 8)
unfolding examples.computes
divisor_zero = bad_field {k = 1} (passed_more (passed_none _ (lit≤ tt)) (lit< tt) refl) (lit< tt) (lit< tt)

pub divisor_negative : Reads (over 0 3 255 255) (refused 8 8)
unfolding examples.computes
divisor_negative = bad_field {k = 1} (passed_more (passed_none _ (lit≤ tt)) (lit< tt) refl) (lit< tt) (lit< tt)

pub divisor_1001 : Reads (over 0 3 3 233) (refused 8 8)
unfolding examples.computes
divisor_1001 = bad_field {k = 1} (passed_more (passed_none _ (lit≤ tt)) (lit< tt) refl) (lit< tt) (lit< tt)

-- "a divisor from 1 to 1,000": both ends, with no other term
pub divisor_1 : Reads (over 0 3 0 1) (accepted 1 1 0)
unfolding examples.computes
divisor_1 = accepted_by (whole_by (over 0 3 0 1) 2 (lit≤ tt) refl (lit≤ tt)) refl

pub divisor_1000 : Reads (over 0 3 3 232) (accepted 1 1 0)
unfolding examples.computes
divisor_1000 = accepted_by (whole_by (over 0 3 3 232) 2 (lit≤ tt) refl (lit≤ tt)) refl

-- "a rule without terms 10"
abbrev bare : List ℕ
bare = variable 1 (0x02 ∷ 0x00 ∷ 0x04 ∷ 0x08 ∷ 0x00 ∷ 0x00 ∷ 0x00 ∷ [])

pub divisor_missing : Reads bare (refused 10 8)
unfolding examples.computes
divisor_missing = bad_field {k = 1} (passed_more (passed_none _ (lit≤ tt)) (lit< tt) refl) (lit< tt) (lit< tt)

-- the divisor's variable byte 0 and a term of variable 0: a ≥ a / 2
abbrev own : List ℕ
own = variable 1 (0x02 ∷ 0x00 ∷ 0x0C ∷ 0x08 ∷ 0x00 ∷ 0x00 ∷ 0x00 ∷ 0x00 ∷ 0x03 ∷ 0x00 ∷ 0x02 ∷ 0x00 ∷ 0x00 ∷ 0x00 ∷ 0x01 ∷ [])

pub no_repeat : Reads own (accepted 1 1 0)
unfolding examples.computes
no_repeat = accepted_by (whole_by own 2 (lit≤ tt) refl (lit≤ tt)) refl

-- ---- a reader whose every answer is the specification's

abbrev number_of : Answer → ℕ
number_of (accepted a b c) = 0
number_of (refused n at) = n

module _ (read : List ℕ → Answer) (right : (s : List ℕ) → Reads s (read s)) where
  -- it lets no divisor of 0 pass
  pub not_divisor_zero : (a b c : ℕ) → read (over 0 3 0 0) ≡ accepted a b c → ⊥
  not_divisor_zero a b c e = accepted_not a b c 8 8 (sym (answers read right _ divisor_zero e))

  -- it lets 17 groups of form 8 pass refusal 6, and of form 1 not
  pub not_17_divided_refused : (at : ℕ) → read (long 8 72) ≡ refused 6 at → ⊥
  not_17_divided_refused at e = let q = ap number_of (answers read right _ divided_of_17 e) in omega arith

  pub not_17_passed : (n at : ℕ) → read (long 1 72) ≡ refused (suc (suc (suc (suc (suc (suc (suc n))))))) at → ⊥
  not_17_passed n at e = let q = ap number_of (answers read right _ sum_of_17 e) in omega arith

  -- it takes the divisor for no occurrence of variable 0
  pub not_a_repeat : (at : ℕ) → read own ≡ refused 11 at → ⊥
  not_a_repeat at e = accepted_not 1 1 0 11 at (answers read right _ no_repeat e)

  -- a missing divisor is no divisor of 0
  pub not_missing_as_zero : (at : ℕ) → read bare ≡ refused 8 at → ⊥
  not_missing_as_zero at e = let q = ap number_of (answers read right _ divisor_missing e) in omega arith
