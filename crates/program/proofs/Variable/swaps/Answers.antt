-- Each way of the test is a case of the definition.
use mathlib.Core.Path.{sym, ◌∙◌}
use mir.Facts.{to_z-of_z}
use Rattle.program.proofs.Variables.{swaps_not, swaps_so}
use Rattle.program.proofs.Variable.swaps.Goals as goal

pub returns-then-is_from_above : goal.returns-then-is_from_above
returns-then-is_from_above c = to_z-of_z c.ranges.b ∙ swaps_so c.args.self c.args.a c.args.b (sym c.is_from_above.ensures ∙ c.if-is_from_above.true)

pub returns-else-is_from_above : goal.returns-else-is_from_above
returns-else-is_from_above c = to_z-of_z c.ranges.a ∙ swaps_not c.args.self c.args.a c.args.b (sym c.is_from_above.ensures ∙ c.if-is_from_above.false)
