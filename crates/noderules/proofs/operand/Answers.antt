use native.Mathlib.Omega.{arith}
use Rattle.noderules.proofs.Terms.{operand_leaf, operand_inner, operand_free}
use Rattle.noderules.proofs.operand.Goals as goal

pub returns-then-s-at-eq0 : goal.returns-then-s-at-eq0
returns-then-s-at-eq0 c = operand_leaf c.args.s.now c.args.at c.args.next (omega arith) c.if-s-at-eq0.true

pub overflow_cast-result : goal.overflow_cast-result
overflow_cast-result c = omega (arith, operand_free _ _ _ c.requires.0 c.if-s-at-eq0.false c.requires.1)

pub returns : goal.returns
returns c = operand_inner c.args.s.now c.args.at c.args.next (omega arith) c.if-s-at-eq0.false
