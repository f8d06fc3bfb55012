-- Over 1 it is the number itself. Else the machine's quotient, rounded towards 0, is rounded up below 0, and above it after one less than the divisor was added.
use mathlib.Core.Path.{◌≡◌, sym, ap, ◌∙◌}
use mathlib.Core.Bool.{true, false}
use Prim.Native.Nat.{◌+◌, ◌-◌, ◌^◌, ◌<◌}
use native.Mathlib.Omega.{arith}
use lib.IntN.{ℤ, pos, nat_abs, ◌+ℤ◌, ◌-ℤ◌}
use lib.Signed.{◌≤ℤ◌, lt_z, quot_z}
use mir.Facts.{to_z-of_z}
use mir.Syntax.{w64}
use mir.Val.{SFits, to_z, of_z}
use Rattle.format.proofs.Ints.{sfits_abs, abs_add}
use Rattle.program.proofs.Quotients.{over_one}
use Rattle.program.specs.Evaluate.{over_up}
use Rattle.bodies.proofs.Sizes.{sum_fits}
use Rattle.evaluation.proofs.Rounding.{quotient_fits, less_one, over_up_below, over_up_natural}
use Rattle.evaluation.proofs.quotients.over_up.Goals as goal

module _ (a d : ℤ) (a_fits : SFits w64 a) (d_fits : SFits w64 d) (one : pos 1 ≤ℤ d) (few : nat_abs a + nat_abs d < 2 ^ 63) where
  a-is : to_z w64 (of_z w64 a) ≡ a
  a-is = to_z-of_z a_fits

  d-is : to_z w64 (of_z w64 d) ≡ d
  d-is = to_z-of_z d_fits

  -- one less than the divisor
  less : SFits w64 (d -ℤ pos 1)
  less = rw (less_one d one) (sfits_abs (pos (nat_abs d - 1)) (nat_abs d) (omega arith) (omega arith))

  less_is : to_z w64 (of_z w64 (to_z w64 (of_z w64 d) -ℤ pos 1)) ≡ pos (nat_abs d - 1)
  less_is = rw d-is (to_z-of_z less ∙ less_one d one)

  -- and the number added to it
  abbrev sum : ℤ
  sum = a +ℤ pos (nat_abs d - 1)

  total : SFits w64 sum
  total = sum_fits a (pos (nat_abs d - 1)) (omega arith)

  total-is : to_z w64 (of_z w64 (to_z w64 (of_z w64 a) +ℤ to_z w64 (of_z w64 (to_z w64 (of_z w64 d) -ℤ pos 1)))) ≡ sum
  total-is = rw (a-is, less_is) (to_z-of_z total)

  quotient : SFits w64 (quot_z sum d)
  quotient = quotient_fits sum d (omega (arith, abs_add a (pos (nat_abs d - 1)))) one

  below : lt_z (to_z w64 (of_z w64 a)) (pos 0) ≡ true → to_z w64 (of_z w64 (quot_z (to_z w64 (of_z w64 a)) (to_z w64 (of_z w64 d)))) ≡ over_up d a
  below t = rw (a-is, d-is) (to_z-of_z (quotient_fits a d (omega arith) one) ∙ over_up_below a d one (rw a-is at t))

  natural :
      lt_z (to_z w64 (of_z w64 a)) (pos 0) ≡ false →
      to_z w64 (of_z w64 (quot_z (to_z w64 (of_z w64 (to_z w64 (of_z w64 a) +ℤ to_z w64 (of_z w64 (to_z w64 (of_z w64 d) -ℤ pos 1))))) (to_z w64 (of_z w64 d)))) ≡ over_up d a
  natural t = rw (total-is, d-is) (to_z-of_z quotient ∙ over_up_natural a d one (rw a-is at t))

pub returns-then-d-eq1 : goal.returns-then-d-eq1
returns-then-d-eq1 c = let e : c.args.d ≡ pos 1 = sym (to_z-of_z c.ranges.d) ∙ ap (to_z w64) c.if-d-eq1.true in
    to_z-of_z c.ranges.a ∙ sym (ap (λ (d : ℤ). over_up d c.args.a) e ∙ over_one c.args.a)

pub returns-then-a-lt0 : goal.returns-then-a-lt0
returns-then-a-lt0 c = below c.args.a c.args.d c.ranges.a c.ranges.d c.requires.0 c.requires.1 c.if-a-lt0.true

pub returns-else-a-lt0 : goal.returns-else-a-lt0
returns-else-a-lt0 c = natural c.args.a c.args.d c.ranges.a c.ranges.d c.requires.0 c.requires.1 c.if-a-lt0.false
