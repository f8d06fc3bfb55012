-- Each way of the test is a case of the definition.
use mathlib.Core.Path.{sym, ◌∙◌}
use native.Mathlib.Omega.{arith}
use mir.Facts.{to_z-of_z}
use Rattle.bodies.proofs.Sizes.{sum_fits}
use Rattle.steady.proofs.Machine.{difference_fits}
use Rattle.steady.proofs.SteadyLaws.{further_not, further_so}
use Rattle.steady.proofs.steps.further.Goals as goal

pub overflow_sub-result : goal.overflow_sub-result
overflow_sub-result c = rw (to_z-of_z c.ranges.a, to_z-of_z c.ranges.steps) (difference_fits c.args.steps c.args.a (omega (arith, c.requires)))

pub overflow_add-result : goal.overflow_add-result
overflow_add-result c = rw (to_z-of_z c.ranges.a, to_z-of_z c.ranges.steps) (sum_fits c.args.a c.args.steps c.requires)

pub returns-then-is_from_above : goal.returns-then-is_from_above
returns-then-is_from_above c = rw (to_z-of_z c.ranges.a, to_z-of_z c.ranges.steps)
    (to_z-of_z (difference_fits c.args.steps c.args.a (omega (arith, c.requires)))
    ∙ further_so c.args.x (sym c.is_from_above.ensures ∙ c.if-is_from_above.true) c.args.a c.args.steps)

pub returns-else-is_from_above : goal.returns-else-is_from_above
returns-else-is_from_above c = rw (to_z-of_z c.ranges.a, to_z-of_z c.ranges.steps)
    (to_z-of_z (sum_fits c.args.a c.args.steps c.requires)
    ∙ further_not c.args.x (sym c.is_from_above.ensures ∙ c.if-is_from_above.false) c.args.a c.args.steps)
