-- The tests of a target, and the first aims.
use Prim.Native.Nat.{ℕ, suc, ◌^◌, ◌<◌, ◌≤◌}
use mathlib.Core.Path.{◌≡◌, refl, sym, subst, ◌∙◌}
use mathlib.Core.Bool.{Bool, true, false, not, ◌&&◌, ◌||◌}
use mathlib.Core.List.{List}
use native.Mathlib.Omega.{arith}
use lib.Dec.{T}
use mir.Syntax.{w64}
use mir.Val.{SFits}
use lib.IntN.{ℤ, pos, negsuc, neg_ℤ, nat_abs, ◌+ℤ◌, ◌-ℤ◌}
use lib.Signed.{le_z}
use lib.ListN.{length, get_or-eq_default}
use Rattle.format.specs.Limits.{max_number}
use Rattle.format.proofs.Int.{int, nle_out, sum_is, neg_is, abs_is, not_negative, not_positive}
use Rattle.format.proofs.Ints.{sfits_abs}
use Rattle.program.specs.Program.{variable_in, no_variable}
use Rattle.program.specs.Variables.{is_founded, from_above, far, not_past}
use Rattle.program.specs.Readings.{valued}
use Rattle.program.specs.declared.Variable.{Variable}
use Rattle.program.proofs.Tests.{cases, is_test, and_left, and_right}
use Rattle.program.proofs.Variables.{swaps_so, swaps_not}
use Rattle.bodies.proofs.Sizes.{sum_fits}
use Rattle.steady.specs.Strides.{stride_of}
use Rattle.steady.proofs.Machine.{difference_fits}
use Rattle.targets.specs.Aims.{is_open, drawn_back, later_of, first_aim, first_aims}

pub not_not : (b : Bool) → not (not b) ≡ b
not_not true = refl
not_not false = refl

module _ (x : Variable) (cut : Bool) (stop z t : ℤ) where
  -- the code's tests are those of the definition
  pub open_as : {f a p s : Bool} → f ≡ is_founded x → a ≡ not (not_past x t z) → p ≡ not (not_past x t (far x)) → s ≡ not (not_past x t stop)
      → (f && (a && (not p && (not cut || not s)))) ≡ is_open cut x stop z t
  unfolding is_open
  open_as e g h k = rw (e, g, h, k, not_not (not_past x t (far x)), not_not (not_past x t stop))

  pub standard_closed : T (not (is_founded x)) → is_open cut x stop z t ≡ false
  unfolding is_open
  standard_closed n = rw (not_founded (is_founded x) n)
    where
      not_founded : (b : Bool) → T (not b) → b ≡ false
      not_founded true n = absurd n
      not_founded false n = refl

  -- each way of the tests is a case of the definition
  pub closed_aim : (s : ℕ) → is_open cut x stop z t ≡ false → z ≡ first_aim cut x s stop z t
  unfolding first_aim
  closed_aim s e = rw e

  -- an open one is drawn back
  pub open_aim : (s : ℕ) → is_open cut x stop z t ≡ true → later_of x z (drawn_back x s t) ≡ first_aim cut x s stop z t
  unfolding first_aim
  open_aim s e = rw e

-- ---- drawn back

module _ (x : Variable) where
  pub back_above : from_above x ≡ true → (s : ℕ) (t : ℤ) → (t +ℤ pos s) ≡ drawn_back x s t
  unfolding drawn_back
  back_above f s t = swaps_so x (t -ℤ pos s) (t +ℤ pos s) f

  pub back_below : from_above x ≡ false → (s : ℕ) (t : ℤ) → (t -ℤ pos s) ≡ drawn_back x s t
  unfolding drawn_back
  back_below f s t = swaps_not x (t -ℤ pos s) (t +ℤ pos s) f

  -- each way of the test is a case of the definition
  pub later_second : (a b : ℤ) → not (not_past x b a) ≡ true → b ≡ later_of x a b
  unfolding later_of
  later_second a b e = rw (is_not (not_past x b a) e)
    where
      is_not : (t : Bool) → not t ≡ true → t ≡ false
      is_not true e = sym e
      is_not false e = refl

  pub later_first : (a b : ℤ) → not (not_past x b a) ≡ false → a ≡ later_of x a b
  unfolding later_of
  later_first a b e = rw (is_so (not_past x b a) e)
    where
      is_so : (t : Bool) → not t ≡ false → t ≡ true
      is_so true e = refl
      is_so false e = sym e

-- ---- numbers of the machine

-- a number after a small one is far from the least of the machine, and one before it far from the greatest
before_fits : (z t : ℤ) (s : ℕ) → nat_abs z ≤ max_number → s ≤ max_number → SFits w64 t → T (not (le_z t z)) → SFits w64 (t -ℤ pos s)
before_fits z (pos n) s l m g h =
    let d = pos n -ℤ pos s in
    let k : n < 2 ^ 63 = g.sfits in
    let e = sum_is (pos n) (neg_ℤ (pos s)) in
    cases (le_z (pos s) (pos n)) (λ t. SFits w64 d)
    (λ t. sfits_abs d n (omega (int, e, neg_is (pos s), abs_is d, not_negative {z = d} (omega (int, e, neg_is (pos s))))) k)
    (λ t. sfits_abs d max_number (omega (int, e, neg_is (pos s), abs_is d, not_positive {z = d} (omega (int, e, neg_is (pos s))))) (omega arith))
before_fits z (negsuc n) s l m g h = difference_fits (pos s) (negsuc n) (let k : suc n ≤ max_number = omega (int, nle_out (negsuc n) z h, abs_is z) in omega arith)

after_fits : (z t : ℤ) (s : ℕ) → nat_abs z ≤ max_number → 1 ≤ s → s ≤ max_number → SFits w64 t → T (not (le_z z t)) → SFits w64 (t +ℤ pos s)
after_fits z (pos n) s l o m g h = sum_fits (pos n) (pos s) (let k : n ≤ max_number = omega (int, nle_out z (pos n) h, abs_is z) in omega arith)
after_fits z (negsuc n) s l o m g h =
    let d = negsuc n +ℤ pos s in
    let k : n < 2 ^ 63 = g.sfits in
    let e = sum_is (negsuc n) (pos s) in
    cases (le_z (pos s) (pos n)) (λ t. SFits w64 d)
    (λ t. sfits_abs d n (omega (int, e, abs_is d, not_positive {z = d} (omega (int, e)))) k)
    (λ t. sfits_abs d max_number (omega (int, e, abs_is d, not_negative {z = d} (omega (int, e)))) (omega arith))

-- a target after a small value
module _ (x : Variable) (z t : ℤ) (s : ℕ) (o : T (not (not_past x t z))) (l : nat_abs z ≤ max_number) (one : 1 ≤ s) (m : s ≤ max_number)
    (g : SFits w64 t) where
  pub below_fits : from_above x ≡ false → SFits w64 (t -ℤ pos s)
  unfolding not_past
  below_fits e = before_fits z t s l m g (subst (λ (b : Bool). T (not b)) (sym (swaps_not x (le_z t z) (le_z z t) e)) o)

  pub above_fits : from_above x ≡ true → SFits w64 (t +ℤ pos s)
  unfolding not_past
  above_fits e = after_fits z t s l one m g (subst (λ (b : Bool). T (not b)) (sym (swaps_so x (le_z t z) (le_z z t) e)) o)

-- an open target comes after the value
module _ (x : Variable) (cut : Bool) (stop z t : ℤ) (o : is_open cut x stop z t ≡ true) where
  pub open_after : T (not (not_past x t z))
  unfolding is_open
  open_after =
      let u = is_founded x in
      let q = not (not_past x t z) in
      let r = not_past x t (far x) && (not cut || not_past x t stop) in
      and_left q r (and_right u (q && r) (is_test o))

-- ---- one variable after the other

module _ (vs : List Variable) (cut : Bool) (strides stops m target : List ℤ) (v : ℕ) where
  -- past the last variable
  pub past_aim : length vs ≤ v → valued m v ≡ first_aims vs cut strides stops m target v
  past_aim l = closed_aim (variable_in vs v) cut (valued stops v) (valued m v) (valued target v) _ (rw (get_or-eq_default vs no_variable l) standard)
    where
      standard : is_open cut no_variable (valued stops v) (valued m v) (valued target v) ≡ false
      standard = standard_closed no_variable cut (valued stops v) (valued m v) (valued target v) tt

  -- the record that was read is that of the variable, and so are the values
  pub aim_variable : {x : Variable} {s z t r : ℤ} {n : ℕ} → x ≡ variable_in vs v → s ≡ valued stops v → z ≡ valued m v → t ≡ valued target v → n ≡ stride_of strides v → r ≡ first_aim cut x n s z t
      → r ≡ first_aims vs cut strides stops m target v
  aim_variable p d e f k q = q ∙ rw (p, d, e, f, k)
