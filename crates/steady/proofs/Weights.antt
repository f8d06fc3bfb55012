-- The rise of a sum: the weights are no larger than the numbers, and together, in strides, no larger than the room.
use Prim.Native.Nat.{ℕ, zero, suc, ◌+◌, ◌-◌, ◌*◌, ◌/◌, ◌<◌, ◌≤◌}
use mathlib.Core.Path.{◌≡◌, refl, ap}
use mathlib.Core.Bool.{Bool, true, false, cond}
use native.Mathlib.Omega.{arith}
use native.Mathlib.Nat.{mul-le-mul, mul_comm, mul_assoc, div-mul-le_self}
use lib.Dec.{eqb, ltb}
use lib.IntN.{ℤ, pos, nat_abs, ◌+ℤ◌}
use lib.Signed.{◌≤ℤ◌}
use borrow.Author.Tests.{ltb-true, ltb-false}
use Rattle.format.proofs.Int.{int, sum_is}
use Rattle.program.specs.Evaluate.{sum_below}
use Rattle.steady.specs.Estimate.{weight, room_below, weight_at, rise_below}

-- ---- a weight

module _ (room : ℕ) (k : ℤ) (stride steps : ℕ) where
  pub weight_room : weight room k stride steps * stride ≤ room
  unfolding weight
  weight_room = go (eqb steps 0) (ltb (nat_abs k) (room / stride)) refl
    where
      go : (s t : Bool) → ltb (nat_abs k) (room / stride) ≡ t → cond s 0 (cond t (nat_abs k) (room / stride)) * stride ≤ room
      go true t e = omega arith
      go false true e =
          let l = ltb-true (nat_abs k) (room / stride) e in
          omega (arith, div-mul-le_self room stride, mul-le-mul {n₁ = nat_abs k} {m₁ = stride} {n₂ = room / stride} {m₂ = stride} (omega arith) (omega arith))
      go false false e = div-mul-le_self room stride

  pub weight_number : weight room k stride steps ≤ nat_abs k
  unfolding weight
  weight_number = go (eqb steps 0) (ltb (nat_abs k) (room / stride)) refl
    where
      go : (s t : Bool) → ltb (nat_abs k) (room / stride) ≡ t → cond s 0 (cond t (nat_abs k) (room / stride)) ≤ nat_abs k
      go true t e = omega arith
      go false true e = omega arith
      go false false e = omega (arith, ltb-false (nat_abs k) (room / stride) e)

-- ---- one position

-- w of the gain of a position that gets to within n of its steps
pub weighed : {w m e : ℕ} (v n : ℕ) → w ≤ m → e ≤ v + n → w * e ≤ m * v + w * n
weighed {w} {m} {e} v n h k = omega (arith, mul-le-mul {n₁ = w} {m₁ = e} {n₂ = w} {m₂ = v + n} (omega arith) k, mul-le-mul {n₁ = w} {m₁ = v} {n₂ = m} {m₂ = v} h (omega arith))

-- ---- the positions together

module _ (d : ℕ) (number : ℕ → ℤ) (stride steps : ℕ → ℕ) where
  pub room_most : (m : ℕ) → room_below d number stride steps m ≤ d
  unfolding room_below
  room_most zero = omega arith
  room_most (suc m) = let h = room_most m in omega arith

  -- what the sums lack is at most n for each piece of the room that is taken
  pub rise_within : (f g : ℕ → ℤ) (n m : ℕ)
      → ((i : ℕ) → i < m → (f i +ℤ pos (weight_at d number stride steps i * steps i)) ≤ℤ (g i +ℤ pos (weight_at d number stride steps i * (n * stride i))))
      → (sum_below f m +ℤ pos (rise_below d number stride steps m + room_below d number stride steps m * n)) ≤ℤ (sum_below g m +ℤ pos (d * n))
  unfolding sum_below rise_below room_below
  rise_within f g n zero h = omega int
  rise_within f g n (suc m) h =
      let a = rise_within f g n m (λ i l. h i (omega arith)) in
      let b = h m (omega arith) in
      let w = weight_at d number stride steps m in
      let r = room_below d number stride steps m in
      omega (
        int,
        a,
        b,
        sum_is (sum_below f m) (f m),
        sum_is (sum_below g m) (g m),
        sum_is (f m) (pos (w * steps m)),
        sum_is (g m) (pos (w * (n * stride m))),
        sum_is (sum_below f m) (pos (rise_below d number stride steps m + r * n)),
        sum_is (sum_below g m) (pos (d * n)),
        sum_is (sum_below f m +ℤ f m) (pos (rise_below d number stride steps m + w * steps m + (r - w * stride m) * n)),
        sum_is (sum_below g m +ℤ g m) (pos (d * n)),
        split w n (stride m) (weight_room r (number m) (stride m) (steps m)),
      )
    where
      split : {r : ℕ} (w n t : ℕ) → w * t ≤ r → (r - w * t) * n + w * (n * t) ≡ r * n
      split {r} w n t h =
          let e : (r - w * t) + w * t ≡ r = omega arith in
          omega (arith, ap (λ (z : ℕ). z * n) e, mul_assoc w t n, ap (λ (z : ℕ). w * z) (mul_comm n t))
