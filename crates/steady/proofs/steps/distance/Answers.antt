-- Each way of the test is the difference of the larger and the smaller.
use mathlib.Core.Path.{◌≡◌, ◌∙◌}
use mathlib.Core.Bool.{true, false}
use native.Mathlib.Omega.{arith}
use lib.Signed.{lt_z}
use mir.Facts.{to_z-of_z}
use Rattle.steady.proofs.Machine.{difference_fits, distance_below, distance_above}
use Rattle.steady.proofs.steps.distance.Goals as goal

pub overflow_sub-result : goal.overflow_sub-result
overflow_sub-result c = rw (to_z-of_z c.ranges.a, to_z-of_z c.ranges.b) (difference_fits c.args.a c.args.b c.requires)

pub overflow_sub-result-else-a-b : goal.overflow_sub-result-else-a-b
overflow_sub-result-else-a-b c = rw (to_z-of_z c.ranges.a, to_z-of_z c.ranges.b) (difference_fits c.args.b c.args.a (omega (arith, c.requires)))

pub returns-then-a-b : goal.returns-then-a-b
returns-then-a-b c = let t : lt_z c.args.a c.args.b ≡ true = simp (to_z-of_z c.ranges.a, to_z-of_z c.ranges.b) at c.if-a-b.true in
    rw (to_z-of_z c.ranges.a, to_z-of_z c.ranges.b) (to_z-of_z (difference_fits c.args.a c.args.b c.requires) ∙ distance_below c.args.a c.args.b t)

pub returns-else-a-b : goal.returns-else-a-b
returns-else-a-b c = let t : lt_z c.args.a c.args.b ≡ false = simp (to_z-of_z c.ranges.a, to_z-of_z c.ranges.b) at c.if-a-b.false in
    rw (to_z-of_z c.ranges.a, to_z-of_z c.ranges.b) (to_z-of_z (difference_fits c.args.b c.args.a (omega (arith, c.requires))) ∙ distance_above c.args.a c.args.b t)
