-- Numbers of the format's range.
use Prim.Native.Nat.{ℕ, ◌+◌, ◌≤◌, ◌<◌}
use mathlib.Core.Path.{◌≡◌, sym, subst}
use mathlib.Core.Bool.{Bool, false, not}
use native.Mathlib.Omega.{arith}
use lib.Dec.{T}
use lib.IntN.{ℤ, pos, negsuc, nat_abs}
use lib.Signed.{lt_z, ◌≤ℤ◌}
use mathlib.Core.List.{List}
use lib.ListN.{length, set}
use lib.Seq.{get_or-set_same, get_or-set_other}
use borrow.Author.Count.{below_more}
use Rattle.program.specs.Readings.{valued}
use Rattle.format.specs.Limits.{max_number}
use Rattle.format.proofs.Int.{int}

pub near_abs : (a : ℤ) → lt_z (pos max_number) a ≡ false → lt_z a (negsuc 29999) ≡ false → nat_abs a ≤ max_number
near_abs (pos n) h k = let t : T (not (lt_z (pos max_number) (pos n))) = subst (λ (b : Bool). T (not b)) (sym h) tt in omega (int, t)
near_abs (negsuc n) h k = let t : T (not (lt_z (negsuc n) (negsuc 29999))) = subst (λ (b : Bool). T (not b)) (sym k) tt in omega (int, t)

-- numbers of the range of sums
pub within_abs : (a : ℤ) → lt_z (pos 1000000000) a ≡ false → lt_z a (negsuc 999999999) ≡ false → nat_abs a ≤ 1000000000
within_abs (pos n) h k = let t : T (not (lt_z (pos 1000000000) (pos n))) = subst (λ (b : Bool). T (not b)) (sym h) tt in omega (int, t)
within_abs (negsuc n) h k = let t : T (not (lt_z (negsuc n) (negsuc 999999999))) = subst (λ (b : Bool). T (not b)) (sym k) tt in omega (int, t)

-- a divisor is at least 1
pub least_one : (a : ℤ) → lt_z a (pos 1) ≡ false → pos 1 ≤ℤ a
least_one a h = let t : T (not (lt_z a (pos 1))) = subst (λ (b : Bool). T (not b)) (sym h) tt in omega (int, t)

-- one more stride of at least 1
pub set_stride : (ms : List ℤ) (v : ℕ) (a : ℤ) → v < length ms → pos 1 ≤ℤ a → ((u : ℕ) → u < v → pos 1 ≤ℤ valued ms u) → (u : ℕ) → u < v + 1 → pos 1 ≤ℤ valued (set ms v a) u
set_stride ms v a l h k =
    below_more (λ (u : ℕ). pos 1 ≤ℤ valued (set ms v a) u) v
    (λ u q. rw (get_or-set_other ms v u a (pos 0) (omega arith)) (k u q))
    (rw (get_or-set_same ms v a (pos 0) l) h)
