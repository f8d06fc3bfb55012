-- The sum of two small numbers fits the machine's.
use mir.Facts.{to_z-of_z}
use Rattle.bodies.proofs.Sizes.{sum_fits}
use Rattle.bodies.proofs.numbers.plus.Goals as goal

pub overflow_add-result : goal.overflow_add-result
overflow_add-result c = rw (to_z-of_z c.ranges.a, to_z-of_z c.ranges.b) (sum_fits c.args.a c.args.b c.requires)

pub returns : goal.returns
returns c = rw (to_z-of_z c.ranges.a, to_z-of_z c.ranges.b) (to_z-of_z (sum_fits c.args.a c.args.b c.requires))
