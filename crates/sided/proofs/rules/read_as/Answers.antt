-- Only form 8 is read as another, a sum.
use Rattle.program.proofs.Forms.{read_as_sum, read_as_itself}
use Rattle.sided.proofs.rules.read_as.Goals as goal

pub returns-then-form-eq8 : goal.returns-then-form-eq8
returns-then-form-eq8 c = read_as_sum _ c.if-form-eq8.true

pub returns-else-form-eq8 : goal.returns-else-form-eq8
returns-else-form-eq8 c = read_as_itself _ c.if-form-eq8.false
