-- The product of two small numbers fits the machine's.
use mir.Facts.{to_z-of_z}
use Rattle.bodies.proofs.Sizes.{product_fits}
use Rattle.bodies.proofs.numbers.times.Goals as goal

pub overflow_mul-result : goal.overflow_mul-result
overflow_mul-result c = rw (to_z-of_z c.ranges.a, to_z-of_z c.ranges.b) (product_fits c.args.a c.args.b c.requires)

pub returns : goal.returns
returns c = rw (to_z-of_z c.ranges.a, to_z-of_z c.ranges.b) (to_z-of_z (product_fits c.args.a c.args.b c.requires))
