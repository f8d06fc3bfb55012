-- Each way of the test is a case of the definition.
use mathlib.Core.Path.{◌∙◌}
use mir.Facts.{to_z-of_z}
use Rattle.ends.proofs.RangeLaws.{other_low, other_high}
use Rattle.ends.proofs.ranges.other_end.Goals as goal

pub returns-then-kind-eq1 : goal.returns-then-kind-eq1
returns-then-kind-eq1 c = to_z-of_z c.ranges.low ∙ other_low c.args.x c.args.low c.args.high c.if-kind-eq1.true

pub returns-else-kind-eq1 : goal.returns-else-kind-eq1
returns-else-kind-eq1 c = to_z-of_z c.ranges.high ∙ other_high c.args.x c.args.low c.args.high c.if-kind-eq1.false
