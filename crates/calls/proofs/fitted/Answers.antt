-- The two tests are the conditions of 14 and 15, in the table's order.
use native.Mathlib.Omega.{arith}
use native.Mathlib.Nat.{mul-le-mul}
use Rattle.calls.proofs.Turned.{wrong_assignment, wrong_buffer}
use Rattle.calls.proofs.fitted.Goals as goal

pub returns-then-assignment-n : goal.returns-then-assignment-n
returns-then-assignment-n c = λ s b e r. wrong_assignment s c.args.counts r c.args.assignment.now b c.args.bytes c.if-assignment-n.true

pub overflow_mul-bytes : goal.overflow_mul-bytes
overflow_mul-bytes c = omega (arith, mul-le-mul c.requires.0 c.requires.1)

pub returns-then-room-bytes : goal.returns-then-room-bytes
returns-then-room-bytes c = λ s b e r. wrong_buffer s c.args.counts r c.args.assignment.now b c.args.bytes (omega arith) (omega arith)

pub returns : goal.returns
returns c = λ s b e r. (r, omega arith, omega arith)
