-- A negative number's 16 bits are 65,536 more than it.
use mathlib.Core.Path.{refl, sym, ap, subst}
use Prim.Native.Nat.{◌<◌}
use lib.IntN.{ℤ, pos, nat_abs}
use mir.Syntax.{w16, w64}
use mir.Val.{of_z}
use mir.Facts.{to_z-of_z, to_z_pos}
use native.Mathlib.Omega.{arith}
use Rattle.format.proofs.Ints.{raw_negative, raw_positive, raw_small, sfits_abs}
use Rattle.format.proofs.raw.Goals as goal

pub overflow_add-result : goal.overflow_add-result
overflow_add-result c = let s : of_z w16 c.args.v < 65536 = raw_small c.args.v c.requires in
    rw (to_z-of_z c.ranges.v, raw_negative c.args.v (simp (to_z-of_z c.ranges.v) at c.if-v-lt0.true) c.requires)
    (sfits_abs (pos (of_z w16 c.args.v)) 65536 (omega arith) (omega arith))

pub overflow_cast-result : goal.overflow_cast-result
overflow_cast-result c = let s : of_z w16 c.args.v < 65536 = raw_small c.args.v c.requires in
    rw (to_z-of_z c.ranges.v, raw_negative c.args.v (simp (to_z-of_z c.ranges.v) at c.if-v-lt0.true) c.requires, to_z_pos w64 {n = of_z w16 c.args.v} (omega arith))
    (tt, record { fits = omega arith })

pub overflow_cast-result-else-v-lt0 : goal.overflow_cast-result-else-v-lt0
overflow_cast-result-else-v-lt0 c = let s : of_z w16 c.args.v < 65536 = raw_small c.args.v c.requires in
    rw (to_z-of_z c.ranges.v, raw_positive c.args.v (simp (to_z-of_z c.ranges.v) at c.if-v-lt0.false)) (tt, record { fits = omega arith })

pub returns-then-v-lt0 : goal.returns-then-v-lt0
returns-then-v-lt0 c = let s : of_z w16 c.args.v < 65536 = raw_small c.args.v c.requires in
    rw (to_z-of_z c.ranges.v, raw_negative c.args.v (simp (to_z-of_z c.ranges.v) at c.if-v-lt0.true) c.requires, to_z_pos w64 {n = of_z w16 c.args.v} (omega arith)) (refl, s)

pub returns-else-v-lt0 : goal.returns-else-v-lt0
returns-else-v-lt0 c = let s : of_z w16 c.args.v < 65536 = raw_small c.args.v c.requires in
    let e = raw_positive c.args.v (simp (to_z-of_z c.ranges.v) at c.if-v-lt0.false) in
    rw (to_z-of_z c.ranges.v) (ap nat_abs e, subst (λ (z : ℤ). nat_abs z < 65536) (sym e) s)
