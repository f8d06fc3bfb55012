-- The length of the ranges is tested first.
use native.Mathlib.Omega.{arith}
use Rattle.lent.specs.BoundsCall.{turned_down}
use Rattle.reader.proofs.Published.{limited}
use Rattle.bounding.proofs.CallLaws.{wrong_length_is}
use Rattle.bounding.proofs.call.bound_file.Goals as goal

pub overflow_mul-counts : goal.overflow_mul-counts
overflow_mul-counts c = let l = limited c.requires in omega (arith, l.few_variables)

pub returns-then-ranges-counts : goal.returns-then-ranges-counts
returns-then-ranges-counts c = turned_down (wrong_length_is c.requires c.args.ranges.now c.args.buffer.now c.if-ranges-counts.true)
