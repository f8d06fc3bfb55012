-- Integers by their size: a bound in ℕ on `nat_abs`, which `omega` reads.
use mathlib.Core.Path.{◌≡◌, refl, sym, ap, ap₂, ◌∙◌, subst}
use mathlib.Core.Bool.{Bool, true, false, cond, not, ◌||◌}
use mathlib.Core.List.{[], ◌∷◌}
use Prim.Native.Nat.{ℕ, zero, suc, ◌+◌, ◌-◌, ◌*◌, ◌/◌, ◌%◌, ◌^◌, ◌≤◌, ◌<◌}
use native.Mathlib.Nat.{le_refl, mul-le-mul, lt_of_le_of_lt, le_trans, le_of_eq}
use native.Mathlib.Omega.{arith}
use lib.Dec.{T, ltb}
use borrow.Author.Tests.{ltb-true, ltb-false, le-ltb}
use lib.IntN.{ℤ, pos, negsuc, neg_ℤ, nat_abs, sub_ℕ, ◌+ℤ◌, ◌-ℤ◌, ◌*ℤ◌}
use lib.Signed.{mag, lt_z, ◌≤ℤ◌, lt_z_no}
use mir.Syntax.{w8, w16, w64}
use mir.Val.{SFits, to_z, of_z, sel}
use mir.Facts.{to_z-of_z, of_z-to_z, to_z_pos, Fits-of_z}
use Rattle.format.specs.Numbers.{big, signed, bytes_of, beyond}
use Rattle.format.proofs.Int.{≡-out, int, neg_is, sum_is, product_is}

abs_neg : (z : ℤ) → nat_abs (neg_ℤ z) ≡ nat_abs z
abs_neg (pos zero) = refl
abs_neg (pos (suc n)) = refl
abs_neg (negsuc n) = refl

abs_sub : (a b : ℕ) → nat_abs (sub_ℕ a b) ≤ a + b
abs_sub a b = go (ltb a b) refl
  where
    go : (t : Bool) → ltb a b ≡ t → nat_abs (cond t (negsuc (b - suc a)) (pos (a - b))) ≤ a + b
    go true e = omega (arith, ltb-true a b e)
    go false e = omega arith

-- the size of a sum is at most the sizes' sum
pub abs_add : (a b : ℤ) → nat_abs (a +ℤ b) ≤ nat_abs a + nat_abs b
abs_add (pos a) (pos b) = le_refl (a + b)
abs_add (pos a) (negsuc b) = abs_sub a (suc b)
abs_add (negsuc a) (pos b) = le_trans (abs_sub b (suc a)) (omega arith)
abs_add (negsuc a) (negsuc b) = omega arith

-- the size of a product is the sizes' product
pub abs_mul : (a b : ℤ) → nat_abs (a *ℤ b) ≡ nat_abs a * nat_abs b
abs_mul (pos a) (pos b) = refl
abs_mul (pos a) (negsuc b) = abs_neg (pos (a * suc b))
abs_mul (negsuc a) (pos b) = abs_neg (pos (suc a * b))
abs_mul (negsuc a) (negsuc b) = refl

pub abs_mul_le : (a b : ℤ) (m n : ℕ) → nat_abs a ≤ m → nat_abs b ≤ n → nat_abs (a *ℤ b) ≤ m * n
abs_mul_le a b m n h k = le_trans (le_of_eq (abs_mul a b)) (mul-le-mul h k)

mag_le : (z : ℤ) → mag z ≤ nat_abs z
mag_le (pos n) = le_refl n
mag_le (negsuc n) = omega arith

-- a number of small size is an i64
pub sfits_abs : (z : ℤ) (m : ℕ) → nat_abs z ≤ m → m < 2 ^ 63 → SFits w64 z
sfits_abs z m h k = record { sfits = lt_of_le_of_lt (mag_le z) (omega arith) }

-- the machine's reading of what it wrote
pub back : (z : ℤ) (m : ℕ) → nat_abs z ≤ m → m < 2 ^ 63 → to_z w64 (of_z w64 z) ≡ z
back z m h k = to_z-of_z (sfits_abs z m h k)

-- a byte read as signed: the byte, turned by 128, less 128
pub turned : (h : ℕ) → h < 256 → to_z w64 ((h + 128) % 256) -ℤ pos 128 ≡ to_z w8 h
turned h k = let e : to_z w64 ((h + 128) % 256) ≡ pos ((h + 128) % 256) = to_z_pos w64 (omega arith) in rw e (go (ltb h 128) refl)
  where
    go : (t : Bool) → ltb h 128 ≡ t → pos ((h + 128) % 256) -ℤ pos 128 ≡ sel t (pos h) (negsuc (256 - suc h))
    go true e = omega (int, ltb-true h 128 e, sum_is (pos ((h + 128) % 256)) (neg_ℤ (pos 128)))
    go false e = omega (int, ltb-false h 128 e, sum_is (pos ((h + 128) % 256)) (neg_ℤ (pos 128)))

byte_small : (h : ℕ) → h < 256 → nat_abs (to_z w8 h) ≤ 128
byte_small h k = go (ltb h 128) refl
  where
    go : (t : Bool) → ltb h 128 ≡ t → nat_abs (sel t (pos h) (negsuc (256 - suc h))) ≤ 128
    go true e = omega (arith, ltb-true h 128 e)
    go false e = omega (arith, ltb-false h 128 e)

-- two bytes, of which the high one is read as signed
whole : (h l : ℕ) → h < 256 → l < 256 → to_z w8 h *ℤ pos 256 +ℤ pos l ≡ signed h l
whole h l k m = go (ltb h 128) refl
  where
    go : (t : Bool) → ltb h 128 ≡ t → sel t (pos h) (negsuc (256 - suc h)) *ℤ pos 256 +ℤ pos l ≡ to_z w16 (big h l)
    go true e =
        let q : to_z w16 (big h l) ≡ pos (big h l) = to_z_pos w16 (omega (arith, ltb-true h 128 e)) in
        omega (int, ≡-out q, sum_is (pos h *ℤ pos 256) (pos l), product_is (pos h) (pos 256))
    go false e =
        let b : 32768 ≤ big h l = omega (arith, ltb-false h 128 e) in
        let q : to_z w16 (big h l) ≡ negsuc (65536 - suc (big h l)) = ap (λ (t : Bool). sel t (pos (big h l)) (negsuc (65536 - suc (big h l)))) (le-ltb (big h l) 32768 b) in
        omega (int, ≡-out q, sum_is (negsuc (256 - suc h) *ℤ pos 256) (pos l), product_is (negsuc (256 - suc h)) (pos 256))

-- the steps of that in the machine
pub top_fits : (h : ℕ) → h < 256 → SFits w64 (to_z w64 ((h + 128) % 256) -ℤ pos 128)
top_fits h k = rw (turned h k) (sfits_abs (to_z w8 h) 128 (byte_small h k) (omega arith))

top_is : (h : ℕ) → h < 256 → to_z w64 (of_z w64 (to_z w64 ((h + 128) % 256) -ℤ pos 128)) ≡ to_z w8 h
top_is h k = to_z-of_z (top_fits h k) ∙ turned h k

high_fits : (h : ℕ) → h < 256 → SFits w64 (to_z w8 h *ℤ pos 256)
high_fits h k = sfits_abs (to_z w8 h *ℤ pos 256) 32768 (abs_mul_le (to_z w8 h) (pos 256) 128 256 (byte_small h k) (omega arith)) (omega arith)

pub times_fits : (h : ℕ) → h < 256 → SFits w64 (to_z w64 (of_z w64 (to_z w64 ((h + 128) % 256) -ℤ pos 128)) *ℤ pos 256)
times_fits h k = rw (top_is h k) (high_fits h k)

-- two bytes are a small number
pub signed_small : (high low : ℕ) → high < 256 → low < 256 → nat_abs (signed high low) ≤ 32768
signed_small high low h k = go (ltb (big high low) 32768) refl
  where
    go : (t : Bool) → ltb (big high low) 32768 ≡ t → nat_abs (sel t (pos (big high low)) (negsuc (65536 - suc (big high low)))) ≤ 32768
    go true e = omega (arith, ltb-true (big high low) 32768 e)
    go false e = omega (arith, ltb-false (big high low) 32768 e)

-- the sum of the high byte's part and the low byte is an i64, and the number
pub sum_fits : (h l : ℕ) → h < 256 → l < 256
    → SFits w64 (to_z w64 (of_z w64 (to_z w64 (of_z w64 (to_z w64 ((h + 128) % 256) -ℤ pos 128)) *ℤ pos 256)) +ℤ to_z w64 l)
sum_fits h l k m =
    let t : to_z w64 (of_z w64 (to_z w64 (of_z w64 (to_z w64 ((h + 128) % 256) -ℤ pos 128)) *ℤ pos 256)) ≡ to_z w8 h *ℤ pos 256 = rw (top_is h k) (to_z-of_z (high_fits h k)) in
    let e : to_z w64 l ≡ pos l = to_z_pos w64 (omega arith) in
    rw (t, e) (rw (whole h l k m) (sfits_abs (signed h l) 32768 (signed_small h l k m) (omega arith)))

pub number_is : (h l : ℕ) → h < 256 → l < 256
    → to_z w64 (of_z w64 (to_z w64 (of_z w64 (to_z w64 (of_z w64 (to_z w64 ((h + 128) % 256) -ℤ pos 128)) *ℤ pos 256)) +ℤ to_z w64 l)) ≡ signed h l
number_is h l k m =
    let t : to_z w64 (of_z w64 (to_z w64 (of_z w64 (to_z w64 ((h + 128) % 256) -ℤ pos 128)) *ℤ pos 256)) ≡ to_z w8 h *ℤ pos 256 = rw (top_is h k) (to_z-of_z (high_fits h k)) in
    let e : to_z w64 l ≡ pos l = to_z_pos w64 (omega arith) in
    to_z-of_z (sum_fits h l k m) ∙ rw (t, e) (whole h l k m)

-- a number in two's complement, written and read back
pub read_written : (z : ℤ) → nat_abs z < 32768 → signed (of_z w16 z / 256) (of_z w16 z % 256) ≡ z
read_written z h =
    let e : big (of_z w16 z / 256) (of_z w16 z % 256) ≡ of_z w16 z = omega arith in
    ap (to_z w16) e ∙ to_z-of_z {w = w16} (record { sfits = lt_of_le_of_lt (mag_le z) h })

-- and read and written back
pub written_read : (high low : ℕ) → high < 256 → low < 256 → bytes_of (signed high low) ≡ high ∷ low ∷ []
unfolding bytes_of
written_read high low h k =
    let e : of_z w16 (signed high low) ≡ big high low = of_z-to_z {w = w16} {n = big high low} (record { fits = omega arith }) in
    let a : of_z w16 (signed high low) / 256 ≡ high = omega arith in
    let b : of_z w16 (signed high low) % 256 ≡ low = omega arith in
    ap₂ (λ (x y : ℕ). x ∷ y ∷ []) a b

-- a negative number's bits are the number and 2 ^ 16
pub raw_negative : (z : ℤ) → lt_z z (pos 0) ≡ true → nat_abs z < 32768 → z +ℤ pos 65536 ≡ pos (of_z w16 z)
raw_negative (pos n) t h = absurd (subst T (sym t ∙ le-ltb n 0 (omega arith)) tt)
raw_negative (negsuc n) t h = ap (λ (b : Bool). cond b (negsuc (suc n - suc 65536)) (pos (65536 - suc n))) (le-ltb 65536 (suc n) (omega arith))

pub raw_positive : (z : ℤ) → lt_z z (pos 0) ≡ false → z ≡ pos (of_z w16 z)
raw_positive (pos n) t = refl
raw_positive (negsuc n) t = let z : ◌≡◌ {A = ℕ} 0 1 = cc in absurd (omega arith)

pub raw_small : (z : ℤ) → nat_abs z < 32768 → of_z w16 z < 65536
raw_small z h = (Fits-of_z {w = w16} {z = z} (record { sfits = lt_of_le_of_lt (mag_le z) h })).fits

-- a number below -m or above m is outside
pub beyond_below : (m : ℕ) (z : ℤ) → lt_z z (neg_ℤ (pos m)) ≡ true → true ≡ beyond m z
unfolding beyond
beyond_below m z e = simp e

pub beyond_above : (m : ℕ) (z : ℤ) → lt_z z (neg_ℤ (pos m)) ≡ false → lt_z (pos m) z ≡ beyond m z
unfolding beyond
beyond_above m z e = simp e

-- a number that is not outside is small
pub within_small : (m : ℕ) (z : ℤ) → beyond m z ≡ false → nat_abs z ≤ m
unfolding beyond
within_small m z e = go (lt_z z (neg_ℤ (pos m))) (lt_z (pos m) z) refl refl e
  where
    small : (z : ℤ) → neg_ℤ (pos m) ≤ℤ z → z ≤ℤ pos m → nat_abs z ≤ m
    small (pos n) h k = omega int
    small (negsuc n) h k = omega (int, neg_is (pos m))

    go : (a b : Bool) → lt_z z (neg_ℤ (pos m)) ≡ a → lt_z (pos m) z ≡ b → (a || b) ≡ false → nat_abs z ≤ m
    go true b p q f = let x : ◌≡◌ {A = ℕ} 0 1 = cc in absurd (omega arith)
    go false true p q f = let x : ◌≡◌ {A = ℕ} 0 1 = cc in absurd (omega arith)
    go false false p q f =
        let h : neg_ℤ (pos m) ≤ℤ z = lt_z_no (subst (λ (t : Bool). T (not t)) (sym p) tt) in
        let k : z ≤ℤ pos m = lt_z_no (subst (λ (t : Bool). T (not t)) (sym q) tt) in
        small z h k
