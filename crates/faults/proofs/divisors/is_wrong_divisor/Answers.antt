-- By the op, then by the variable byte.
use native.Mathlib.Omega.{arith}
use Rattle.faults.proofs.TermLaws.{divisor_op, divisor_other_op}
use Rattle.faults.proofs.divisors.is_wrong_divisor.Goals as goal

pub returns-in-3 : goal.returns-in-3
returns-in-3 c = divisor_op _ (omega arith)

pub returns-in-0-to-2 : goal.returns-in-0-to-2
returns-in-0-to-2 c = divisor_other_op _ (omega arith)
