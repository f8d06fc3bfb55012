-- The digits of a number, read in base ten, give the number, and the first is 0 for 0 alone.
use Prim.Native.Nat.{ℕ, zero, suc, ◌+◌, ◌-◌, ◌*◌, ◌/◌, ◌%◌, ◌≤◌, ◌<◌}
use mathlib.Core.Path.{◌≡◌, refl}
use mathlib.Core.Bool.{Bool, true, false, cond}
use mathlib.Core.List.{List, [], ◌∷◌, ◌++◌}
use native.Mathlib.Omega.{arith}
use lib.Dec.{ltb}
use lib.ListN.{get_or}
use borrow.Author.Tests.{ltb-false}
use Rattle.text.specs.Decimal.{digit, digits, decimal}

-- the number whose digits follow those of a
unfoldable pub value : ℕ → List ℕ → ℕ
value a [] = a
value a (d ∷ ds) = value (a * 10 + (d - digit 0)) ds

value_more : (a : ℕ) (ds : List ℕ) (d : ℕ) → value a (ds ++ (d ∷ [])) ≡ value a ds * 10 + (d - digit 0)
unfolding value
value_more a [] d = refl
value_more a (x ∷ ds) d = value_more (a * 10 + (x - digit 0)) ds d

digits_value : (k n : ℕ) → n < k → value 0 (digits k n) ≡ n
unfolding value digits
digits_value zero n h = absurd (omega arith)
digits_value (suc k) n h = go (ltb n 10) refl (digits_value k (n / 10))
  where
    go : (t : Bool) → ltb n 10 ≡ t → (n / 10 < k → value 0 (digits k (n / 10)) ≡ n / 10)
        → value 0 (cond t (digit n ∷ []) (digits k (n / 10) ++ (digit (n % 10) ∷ []))) ≡ n
    go true e r = omega arith
    go false e r =
        let l : 10 ≤ n = ltb-false n 10 e in
        let q = r (omega arith) in
        omega (arith, value_more 0 (digits k (n / 10)) (digit (n % 10)))

pub decimal_value : (n : ℕ) → value 0 (decimal n) ≡ n
unfolding decimal
decimal_value n = digits_value (suc n) n (omega arith)

-- the first digit of a number above 0 is above 0, and so is that of a longer list
first_more : (ds : List ℕ) (d : ℕ) → digit 0 < get_or ds 0 0 → digit 0 < get_or (ds ++ (d ∷ [])) 0 0
first_more [] d h = absurd (omega arith)
first_more (x ∷ ds) d h = h

digits_first : (k n : ℕ) → n < k → 0 < n → digit 0 < get_or (digits k n) 0 0
unfolding digits
digits_first zero n h p = absurd (omega arith)
digits_first (suc k) n h p = go (ltb n 10) refl (digits_first k (n / 10))
  where
    go : (t : Bool) → ltb n 10 ≡ t → (n / 10 < k → 0 < n / 10 → digit 0 < get_or (digits k (n / 10)) 0 0)
        → digit 0 < get_or (cond t (digit n ∷ []) (digits k (n / 10) ++ (digit (n % 10) ∷ []))) 0 0
    go true e r = omega arith
    go false e r =
        let l : 10 ≤ n = ltb-false n 10 e in
        first_more (digits k (n / 10)) (digit (n % 10)) (r (omega arith) (omega arith))

-- no leading zero
pub decimal_first : (n : ℕ) → 0 < n → digit 0 < get_or (decimal n) 0 0
unfolding decimal
decimal_first n h = digits_first (suc n) n (omega arith) h
