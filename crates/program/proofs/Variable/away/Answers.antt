-- Each way of the test is a case of the definition.
use mathlib.Core.Path.{sym, ◌∙◌}
use Rattle.program.specs.Directions.{away}
use Rattle.program.proofs.Variables.{swaps_not, swaps_so}
use Rattle.program.proofs.Variable.away.Goals as goal

pub returns-then-is_from_above : goal.returns-then-is_from_above
unfolding away
returns-then-is_from_above c = c.opposite.ensures ∙ swaps_so c.args.self c.args.d _ (sym c.is_from_above.ensures ∙ c.if-is_from_above.true)

pub returns : goal.returns
unfolding away
returns c = swaps_not c.args.self c.args.d _ (sym c.is_from_above.ensures ∙ c.if-is_from_above.false)
