-- Each way of the test is a case of the definition.
use mathlib.Core.Path.{◌≡◌, ◌∙◌}
use mathlib.Core.Bool.{true, false, ◌&&◌}
use lib.IntN.{pos}
use lib.Signed.{le_z}
use mir.Facts.{to_z-of_z}
use Rattle.format.specs.Limits.{max_number}
use Rattle.steady.proofs.Machine.{stride_so, stride_not}
use Rattle.steady.proofs.strides.stride_by.Goals as goal

pub returns-then-least-most : goal.returns-then-least-most
returns-then-least-most c = let t : (le_z (pos 1) c.args.a && le_z c.args.a (pos max_number)) ≡ true = simp (to_z-of_z c.ranges.a) at c.if-least-most.true in
    to_z-of_z c.ranges.a ∙ stride_so c.args.a t

pub returns-else-least-most : goal.returns-else-least-most
returns-else-least-most c = let t : (le_z (pos 1) c.args.a && le_z c.args.a (pos max_number)) ≡ false = simp (to_z-of_z c.ranges.a) at c.if-least-most.false in
    stride_not c.args.a t
