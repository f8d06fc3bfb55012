-- A negative number has its sign and the digits of its absolute value.
-- the sign, as the test tells it
use mathlib.Core.Path.{◌≡◌, ap, ◌∙◌}
use mathlib.Core.Bool.{true, false}
use native.Mathlib.Omega.{arith}
use lib.IntN.{ℤ, pos, nat_abs, ◌-ℤ◌}
use lib.Signed.{lt_z}
use mir.Syntax.{w64}
use mir.Val.{to_z, of_z}
use mir.Facts.{to_z-of_z, to_z_pos}
use Rattle.format.proofs.Ints.{sfits_abs}
use Rattle.text.specs.Decimal.{decimal}
use Rattle.text.proofs.OutputLaws.{appends_as, appends_both}
use Rattle.text.proofs.DecimalLaws.{number_short, negative_size, positive_size, negative_number, positive_number}
use Rattle.text.proofs.put_number.Goals as goal

pub overflow_sub-z : goal.overflow_sub-z
overflow_sub-z c = rw (to_z-of_z c.ranges.z, negative_size c.args.z ((let it : lt_z c.args.z (pos 0) ≡ true = simp (to_z-of_z c.ranges.z) at c.if-z-lt0.true in it)))
    (sfits_abs (pos (nat_abs c.args.z)) 32768 (omega (arith, c.requires.1)) (omega arith))

pub overflow_cast-z : goal.overflow_cast-z
overflow_cast-z c = rw (to_z-of_z c.ranges.z, negative_size c.args.z ((let it : lt_z c.args.z (pos 0) ≡ true = simp (to_z-of_z c.ranges.z) at c.if-z-lt0.true in it)), to_z_pos w64 {n = nat_abs c.args.z} (omega (arith, c.requires.1)))
    (tt, record { fits = omega (arith, c.requires.1) })

pub returns-then-z-lt0 : goal.returns-then-z-lt0
returns-then-z-lt0 c = let e : nat_abs (to_z w64 (of_z w64 (pos 0 -ℤ to_z w64 (of_z w64 c.args.z)))) ≡ nat_abs c.args.z =
    rw (to_z-of_z c.ranges.z, negative_size c.args.z ((let it : lt_z c.args.z (pos 0) ≡ true = simp (to_z-of_z c.ranges.z) at c.if-z-lt0.true in it)), to_z_pos w64 {n = nat_abs c.args.z} (omega (arith, c.requires.1))) in
    let w = appends_as (negative_number c.args.z ((let it : lt_z c.args.z (pos 0) ≡ true = simp (to_z-of_z c.ranges.z) at c.if-z-lt0.true in it)))
    (appends_both c.put-next.ensures (appends_as (ap decimal e) c.put_decimal.ensures.appends)) in
    record { appends = w; upper_bound = omega (arith, w.next, number_short c.args.z c.requires.1) }

pub overflow_cast-z-2 : goal.overflow_cast-z-2
overflow_cast-z-2 c = rw (to_z-of_z c.ranges.z, positive_size c.args.z ((let it : lt_z c.args.z (pos 0) ≡ false = simp (to_z-of_z c.ranges.z) at c.if-z-lt0.false in it))) (tt, record { fits = omega (arith, c.requires.1) })

pub returns : goal.returns
returns c = let w = appends_as (ap (λ (y : ℤ). decimal (nat_abs y)) (to_z-of_z c.ranges.z) ∙ positive_number c.args.z ((let it : lt_z c.args.z (pos 0) ≡ false = simp (to_z-of_z c.ranges.z) at c.if-z-lt0.false in it))) c.put_decimal-2.ensures.appends in
    record { appends = w; upper_bound = omega (arith, w.next, number_short c.args.z c.requires.1) }
