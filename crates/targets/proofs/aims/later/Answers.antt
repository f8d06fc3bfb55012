-- Each way of the test is a case of the definition.
use mathlib.Core.Path.{sym, ◌∙◌}
use mir.Facts.{to_z-of_z}
use Rattle.targets.proofs.AimLaws.{later_first, later_second}
use Rattle.targets.proofs.aims.later.Goals as goal

pub returns-then-is_before : goal.returns-then-is_before
returns-then-is_before c = let e = simp (to_z-of_z c.ranges.a, to_z-of_z c.ranges.b) at c.is_before.ensures in
    to_z-of_z c.ranges.b ∙ later_second c.args.x c.args.a c.args.b (sym e ∙ c.if-is_before.true)

pub returns-else-is_before : goal.returns-else-is_before
returns-else-is_before c = let e = simp (to_z-of_z c.ranges.a, to_z-of_z c.ranges.b) at c.is_before.ensures in
    to_z-of_z c.ranges.a ∙ later_first c.args.x c.args.a c.args.b (sym e ∙ c.if-is_before.false)
