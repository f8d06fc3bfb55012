-- By whether a literal stands there, then by the op.
use native.Mathlib.Omega.{arith}
use Rattle.faults.proofs.TermLaws.{op_plain, op_literal, op_unknown}
use Rattle.faults.proofs.by_form.is_wrong_op.Goals as goal

pub returns-in-0 : goal.returns-in-0
returns-in-0 c = op_plain _ _ _ _ c.is_literal_position-literal.ensures (omega arith)

pub returns-in-1 : goal.returns-in-1
returns-in-1 c = op_literal _ _ _ _ c.is_literal_position-literal.ensures (omega arith) (omega arith)

pub returns-in-3-to-255 : goal.returns-in-3-to-255
returns-in-3-to-255 c = op_unknown _ _ _ _ c.is_literal_position-literal.ensures (omega arith)
