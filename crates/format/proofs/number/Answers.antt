-- The high byte is read as signed, the low one as it is.
use native.Mathlib.Omega.{arith}
use Rattle.format.proofs.Ints.{top_fits, times_fits, sum_fits, number_is}
use Rattle.format.proofs.number.Goals as goal

pub overflow_sub-result : goal.overflow_sub-result
overflow_sub-result c = top_fits c.args.high (omega arith)

pub overflow_mul-result : goal.overflow_mul-result
overflow_mul-result c = times_fits c.args.high (omega arith)

pub overflow_add-result : goal.overflow_add-result
overflow_add-result c = sum_fits c.args.high c.args.low (omega arith) (omega arith)

pub returns : goal.returns
returns c = number_is c.args.high c.args.low (omega arith) (omega arith)
