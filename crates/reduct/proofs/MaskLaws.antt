-- The bits of a word, from the last position to the first: each step moves them up by one.
use Prim.Native.Nat.{ℕ, zero, suc, ◌+◌, ◌-◌, ◌*◌, ◌/◌, ◌%◌, ◌^◌, ◌<◌, ◌≤◌}
use mathlib.Core.Path.{◌≡◌, sym, ap, ◌∙◌, subst}
use mathlib.Core.Bool.{Bool, true, false, cond}
use native.Mathlib.Nat.{pow-suc, zero-div, lt_of_lt_of_le}
use native.Mathlib.Numerals.{one-add}
use native.Mathlib.Omega.{arith}
use lib.Dec.{eqb}
use lib.Pow.{shr-shr, pow_mono}
use Rattle.format.specs.Limits.{max_terms}
use Rattle.words.specs.Bit.{bit}
use Rattle.reduct.specs.Masks.{Mask}

-- ---- bits

-- a word moved up by one, with a lowest bit
abbrev pub pushed : Bool → ℕ → ℕ
pushed b w = cond b 1 0 + 2 * w

pub push_one : {b : Bool} (w : ℕ) → b ≡ true → 1 + 2 * w ≡ pushed b w
push_one w e = rw e

pub push_none : {b : Bool} (w : ℕ) → b ≡ false → 2 * w ≡ pushed b w
push_none w e = rw e (omega arith)

half : (b : Bool) (w : ℕ) → pushed b w / 2 ≡ w
half true w = omega arith
half false w = omega arith

lowest : (b : Bool) (w : ℕ) → bit (pushed b w) 0 ≡ b
unfolding bit
lowest true w = let e : (1 + 2 * w) / 1 % 2 ≡ 1 = omega arith in ap (λ (x : ℕ). eqb x 1) e
lowest false w = let e : (0 + 2 * w) / 1 % 2 ≡ 0 = omega arith in ap (λ (x : ℕ). eqb x 1) e

next_bit : (b : Bool) (w i : ℕ) → bit (pushed b w) (suc i) ≡ bit w i
unfolding bit
next_bit b w i =
    ap (λ (x : ℕ). eqb (x % 2) 1)
    (ap (λ (k : ℕ). pushed b w / 2 ^ k) (sym (one-add i)) ∙ sym (shr-shr (pushed b w) 1 i) ∙ ap (λ (x : ℕ). x / 2 ^ i) (half b w))

no-bit : (i : ℕ) → bit 0 i ≡ false
unfolding bit
no-bit i = ap (λ (x : ℕ). eqb (x % 2) 1) (zero-div (2 ^ i))

pushed_small : (b : Bool) (w n : ℕ) → w < 2 ^ n → pushed b w < 2 ^ suc n
pushed_small true w n h = omega (arith, pow-suc 2 n)
pushed_small false w n h = omega (arith, pow-suc 2 n)

-- ---- the bits of the positions from i on

-- what stands from position i on
abbrev pub from : (ℕ → Bool) → ℕ → ℕ → Bool
from p i j = p (i + j)

mask_none : (p : ℕ → Bool) → Mask p 0 0
mask_none p = record { below = λ i l. absurd (omega arith); past = λ i l. no-bit i; small = omega arith }

mask_more : (p : ℕ → Bool) (n : ℕ) {w : ℕ} (b : Bool) → Mask (λ j. p (suc j)) n w → b ≡ p 0 → Mask p (suc n) (pushed b w)
mask_more p n {w} b m e = record { below = below; past = past; small = pushed_small b w n m.small }
  where
    below : (i : ℕ) → i < suc n → bit (pushed b w) i ≡ p i
    below zero l = lowest b w ∙ e
    below (suc i) l = next_bit b w i ∙ m.below i (omega arith)

    past : (i : ℕ) → suc n ≤ i → bit (pushed b w) i ≡ false
    past zero l = absurd (omega arith)
    past (suc i) l = next_bit b w i ∙ m.past i (omega arith)

-- from the last position on
pub mask_start : (p : ℕ → Bool) (n i : ℕ) → n ≤ i → Mask (from p i) (n - i) 0
mask_start p n i h = let q : 0 ≡ n - i = omega arith in subst (λ (l : ℕ). Mask (from p i) l 0) q (mask_none (from p i))

-- the position before i, of n
pub mask_before : (p : ℕ → Bool) (n i : ℕ) {w w' : ℕ} (b : Bool) → 0 < i → i ≤ n → Mask (from p i) (n - i) w → b ≡ p (i - 1) → w' ≡ pushed b w
    → Mask (from p (i - 1)) (n - (i - 1)) w'
mask_before p n i {w} b h k m e f =
    let q : suc (n - i) ≡ n - (i - 1) = omega arith in
    let z : i - 1 ≡ i - 1 + 0 = omega arith in
    rw f (subst (λ (l : ℕ). Mask (from p (i - 1)) l (pushed b w)) q (mask_more (from p (i - 1)) (n - i) b (mask_as same m) (e ∙ ap p z)))
  where
    mask_as : {f g : ℕ → Bool} → ((j : ℕ) → f j ≡ g j) → {l : ℕ} → Mask f l w → Mask g l w
    mask_as s r = record { below = λ j l. r.below j l ∙ s j; past = r.past; small = r.small }

    same : (j : ℕ) → from p i j ≡ from p (i - 1) (suc j)
    same j = let q : i + j ≡ i - 1 + suc j = omega arith in ap p q

-- all of them
pub mask_whole : (p : ℕ → Bool) (n i : ℕ) {w l : ℕ} → i ≡ 0 → l ≡ n → Mask (from p i) (l - i) w → Mask p n w
mask_whole p n i {w} {l} e k m = record {
  below = λ j h. let q : i + j ≡ j = omega arith in m.below j (omega arith) ∙ ap p q;
  past = λ j h. m.past j (omega arith);
  small = let q : l - i ≡ n = omega arith in rw q at m.small;
}

-- a word of at most so many bits is small
pub mask_small : {p : ℕ → Bool} {n w : ℕ} → Mask p n w → n ≤ max_terms → w < 2 ^ max_terms
mask_small m h = lt_of_lt_of_le m.small (pow_mono h)
