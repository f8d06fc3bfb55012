-- A quotient rounded up is the smallest whole number not below the exact one: its multiple by the divisor reaches the number, and that of no smaller one
-- does. From these two it follows that no other number is it, that it rises with the number divided, and that over 1 it is that number.
use Prim.Native.Nat.{ℕ, zero, suc, ◌+◌, ◌-◌, ◌*◌, ◌/◌, ◌<◌, ◌≤◌}
use mathlib.Core.Path.{◌≡◌, ap}
use mathlib.Core.Bool.{not}
use native.Mathlib.Omega.{arith}
use native.Mathlib.Nat.{div-add-mod, mod-lt, mul_comm, mul-le-mul_left, div-lt_iff_lt-mul, le-div_iff_mul-le}
use lib.IntN.{ℤ, pos, negsuc, neg_ℤ, ◌-ℤ◌, ◌*ℤ◌}
use lib.Signed.{◌≤ℤ◌, ◌<ℤ◌, le_z}
use Rattle.format.proofs.Int.{int, sum_is, product_is, times_pos}
use Rattle.program.specs.Evaluate.{over_up}
use Rattle.program.proofs.Tests.{cases}

-- ---- a number from 0 on, and one below 0, over n

natural-reaches : (n a : ℕ) → 1 ≤ n → a ≤ n * ((a + (n - 1)) / n)
natural-reaches n a h = omega (arith, div-add-mod (a + (n - 1)) n, mod-lt (a + (n - 1)) {m = n} (omega arith))

natural_smallest : (n a k : ℕ) → 1 ≤ n → a ≤ n * k → (a + (n - 1)) / n ≤ k
natural_smallest n a k h l =
    let m : a + (n - 1) < suc k * n = omega (arith, mul_comm n k) in
    let r = (div-lt_iff_lt-mul {k = n} {x = a + (n - 1)} {y = suc k} (omega arith)).1 m in
    omega arith

below_reaches : (n a q : ℕ) → n * q ≤ suc a → negsuc a ≤ℤ (pos n *ℤ neg_ℤ (pos q))
below_reaches n a zero h = omega int
below_reaches n a (suc q) h = omega (int, product_is (pos n) (negsuc q))

below_most : (n a : ℕ) → 1 ≤ n → n * (suc a / n) ≤ suc a
below_most n a h = omega (arith, div-add-mod (suc a) n)

negative_natural : (q k : ℕ) → neg_ℤ (pos q) ≤ℤ pos k
negative_natural zero k = omega int
negative_natural (suc q) k = omega int

negative_under : (q k : ℕ) → suc k ≤ q → neg_ℤ (pos q) ≤ℤ negsuc k
negative_under zero k h = let f : ⊥ = omega arith in absurd f
negative_under (suc q) k h = omega int

-- ---- rounded up

module _ {d : ℤ} (one : pos 1 ≤ℤ d) where
  pub over_up_reaches : (z : ℤ) → z ≤ℤ (d *ℤ over_up d z)
  unfolding over_up
  over_up_reaches z = go d one z
    where
      go : (d : ℤ) → pos 1 ≤ℤ d → (z : ℤ) → z ≤ℤ (d *ℤ over_up d z)
      go (pos n) h (pos a) = let l = natural-reaches n a (omega int) in omega int
      go (pos n) h (negsuc a) = below_reaches n a (suc a / n) (below_most n a (omega int))
      go (negsuc n) h z = let f : ⊥ = omega int in absurd f

  pub over_up_smallest : (z q : ℤ) → z ≤ℤ (d *ℤ q) → over_up d z ≤ℤ q
  unfolding over_up
  over_up_smallest z q = go d one z q
    where
      go : (d : ℤ) → pos 1 ≤ℤ d → (z q : ℤ) → z ≤ℤ (d *ℤ q) → over_up d z ≤ℤ q
      go (pos n) h (pos a) (pos k) l = let m = natural_smallest n a k (omega int) (omega int) in omega int
      go (pos n) h (pos a) (negsuc k) l =
          let m = mul-le-mul_left {m = 1} {n = suc k} n (omega arith) in
          let f : ⊥ = omega (int, product_is (pos n) (negsuc k)) in
          absurd f
      go (pos n) h (negsuc a) (pos k) l = negative_natural (suc a / n) k
      go (pos n) h (negsuc a) (negsuc k) l =
          let m : suc k * n ≤ suc a = omega (int, product_is (pos n) (negsuc k), mul_comm n (suc k)) in
          negative_under (suc a / n) k ((le-div_iff_mul-le {k = n} {x = suc k} {y = suc a} (omega int)).1 m)
      go (negsuc n) h z q l = let f : ⊥ = omega int in absurd f

  -- one less is below the exact quotient
  pub over_up_first : (z : ℤ) → (d *ℤ (over_up d z -ℤ pos 1)) <ℤ z
  over_up_first z =
      let q = over_up d z in
      cases (le_z z (d *ℤ (q -ℤ pos 1))) (λ b. (d *ℤ (q -ℤ pos 1)) <ℤ z)
      (λ t. let l = over_up_smallest z (q -ℤ pos 1) (omega int) in let f : ⊥ = omega (int, sum_is q (negsuc 0)) in absurd f)
      (λ t. omega int)

  -- no other number is the quotient
  pub over_up_only : (z q : ℤ) → z ≤ℤ (d *ℤ q) → (d *ℤ (q -ℤ pos 1)) <ℤ z → q ≡ over_up d z
  over_up_only z q h l =
      let o = over_up d z in
      let a = over_up_smallest z q h in
      cases (le_z q o) (λ b. q ≡ o) (λ t. omega int)
      (λ t. let m : o ≤ℤ (q -ℤ pos 1) = omega (int, sum_is q (negsuc 0)) in
      let n = multiplied o (q -ℤ pos 1) m in
      let f : ⊥ = omega (int, over_up_reaches z) in absurd f)
    where
      multiplied : (x y : ℤ) → x ≤ℤ y → (d *ℤ x) ≤ℤ (d *ℤ y)
      multiplied x y m = go d one
        where
          go : (d : ℤ) → pos 1 ≤ℤ d → (d *ℤ x) ≤ℤ (d *ℤ y)
          go (pos n) h = times_pos n m
          go (negsuc n) h = let f : ⊥ = omega int in absurd f

  -- a larger number has no smaller quotient
  pub over_up_rises : {y z : ℤ} → y ≤ℤ z → over_up d y ≤ℤ over_up d z
  over_up_rises {y} {z} h = let r = over_up_reaches z in over_up_smallest y (over_up d z) (omega int)

-- "Form 1 is read as divisor 1."
pub over_one : (z : ℤ) → over_up (pos 1) z ≡ z
unfolding over_up
over_one (pos a) = let e : (a + 0) / 1 ≡ a = omega arith in ap pos e
over_one (negsuc a) = let e : suc a / 1 ≡ suc a = omega arith in rw e
