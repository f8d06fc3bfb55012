-- A plain term is read on the given side, a literal by its op.
use borrow.Author.Tests.{eq-eqb, ne_eqb}
use Rattle.sided.proofs.is_falling.Goals as goal

pub returns-then-op-eq0 : goal.returns-then-op-eq0
returns-then-op-eq0 c = rw (eq-eqb _ 0 c.if-op-eq0.true)

pub returns-else-op-eq0 : goal.returns-else-op-eq0
returns-else-op-eq0 c = rw (ne_eqb _ 0 c.if-op-eq0.false)
