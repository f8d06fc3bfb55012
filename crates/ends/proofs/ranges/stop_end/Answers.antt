-- Each way of the test is a case of the definition.
use mathlib.Core.Path.{sym, ◌∙◌}
use mir.Facts.{to_z-of_z}
use Rattle.ends.proofs.RangeLaws.{stop_low, stop_high}
use Rattle.ends.proofs.ranges.stop_end.Goals as goal

pub returns-then-is_from_above : goal.returns-then-is_from_above
returns-then-is_from_above c = to_z-of_z c.ranges.low ∙ stop_low c.args.x c.args.low c.args.high (sym c.is_from_above.ensures ∙ c.if-is_from_above.true)

pub returns-else-is_from_above : goal.returns-else-is_from_above
returns-else-is_from_above c = to_z-of_z c.ranges.high ∙ stop_high c.args.x c.args.low c.args.high (sym c.is_from_above.ensures ∙ c.if-is_from_above.false)
