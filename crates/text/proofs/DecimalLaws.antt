-- The digits of a number, one after the other, and how many there are.
use Prim.Native.Nat.{ℕ, zero, suc, ◌+◌, ◌/◌, ◌%◌, ◌^◌, ◌≤◌, ◌<◌}
use mathlib.Core.Path.{◌≡◌, refl, ap}
use mathlib.Core.Bool.{Bool, true, false, cond}
use mathlib.Core.List.{List, [], ◌∷◌, ◌++◌}
use native.Mathlib.Nat.{pow-suc}
use native.Mathlib.Omega.{arith}
use lib.Dec.{ltb}
use lib.IntN.{ℤ, pos, negsuc, nat_abs, ◌-ℤ◌}
use lib.Signed.{lt_z}
use lib.ListN.{length, length-append}
use borrow.Author.Tests.{ltb-true, ltb-false, lt-ltb, le-ltb}
use Rattle.text.specs.Decimal.{digit, digits, decimal, minus, number}

-- more than enough digits make no difference
enough : (k j n : ℕ) → n < k → n < j → digits k n ≡ digits j n
unfolding digits
enough zero j n h l = absurd (omega arith)
enough (suc k) zero n h l = absurd (omega arith)
enough (suc k) (suc j) n h l = go (ltb n 10) refl (enough k j (n / 10))
  where
    go : (t : Bool) → ltb n 10 ≡ t → (n / 10 < k → n / 10 < j → digits k (n / 10) ≡ digits j (n / 10))
        → cond t (digit n ∷ []) (digits k (n / 10) ++ (digit (n % 10) ∷ [])) ≡ cond t (digit n ∷ []) (digits j (n / 10) ++ (digit (n % 10) ∷ []))
    go true e r = refl
    go false e r = let g : 10 ≤ n = ltb-false n 10 e in ap (λ (l : List ℕ). l ++ (digit (n % 10) ∷ [])) (r (omega arith) (omega arith))

pub decimal_one : (n : ℕ) → n < 10 → decimal n ≡ digit n ∷ []
unfolding decimal digits
decimal_one n h = simp (lt-ltb n 10 h)

pub decimal_more : (n : ℕ) → 10 ≤ n → decimal n ≡ decimal (n / 10) ++ (digit (n % 10) ∷ [])
unfolding decimal digits
decimal_more n h = simp (le-ltb n 10 h) (ap (λ (l : List ℕ). l ++ (digit (n % 10) ∷ [])) (enough n (suc (n / 10)) (n / 10) (omega arith) (omega arith)))

-- a number below 10 ^ k has at most k digits
pub decimal_short : (k n : ℕ) → n < 10 ^ suc k → length (decimal n) ≤ suc k
decimal_short zero n h = let e : n < 10 = h in omega (arith, ap length (decimal_one n e))
decimal_short (suc k) n h = go (ltb n 10) refl (decimal_short k (n / 10))
  where
    go : (t : Bool) → ltb n 10 ≡ t → (n / 10 < 10 ^ suc k → length (decimal (n / 10)) ≤ suc k) → length (decimal n) ≤ suc (suc k)
    go true e r = omega (arith, ap length (decimal_one n (ltb-true n 10 e)))
    go false e r =
        let g : 10 ≤ n = ltb-false n 10 e in
        let s = r (omega (arith, pow-suc 10 (suc k))) in
        omega (arith, ap length (decimal_more n g), length-append (decimal (n / 10)) (digit (n % 10) ∷ []))

pub number_short : (z : ℤ) → nat_abs z ≤ 32768 → length (number z) ≤ 6
number_short (pos n) h = omega (arith, decimal_short 4 n (omega arith))
number_short (negsuc n) h = omega (arith, decimal_short 4 (suc n) (omega arith))

-- ---- a number by its sign and its size

pub negative_size : (z : ℤ) → lt_z z (pos 0) ≡ true → pos 0 -ℤ z ≡ pos (nat_abs z)
negative_size (pos n) t = let e : ◌≡◌ {A = ℕ} 0 1 = cc (le-ltb n 0 (omega arith)) in absurd (omega arith)
negative_size (negsuc n) t = let e : 0 + suc n ≡ suc n = omega arith in ap pos e

pub positive_size : (z : ℤ) → lt_z z (pos 0) ≡ false → z ≡ pos (nat_abs z)
positive_size (pos n) t = refl
positive_size (negsuc n) t = let e : ◌≡◌ {A = ℕ} 0 1 = cc in absurd (omega arith)

pub negative_number : (z : ℤ) → lt_z z (pos 0) ≡ true → minus ∷ decimal (nat_abs z) ≡ number z
negative_number (pos n) t = let e : ◌≡◌ {A = ℕ} 0 1 = cc (le-ltb n 0 (omega arith)) in absurd (omega arith)
negative_number (negsuc n) t = refl

pub positive_number : (z : ℤ) → lt_z z (pos 0) ≡ false → decimal (nat_abs z) ≡ number z
positive_number (pos n) t = refl
positive_number (negsuc n) t = let e : ◌≡◌ {A = ℕ} 0 1 = cc in absurd (omega arith)
