-- By the constraint's form.
use native.Mathlib.Omega.{arith}
use Rattle.values.proofs.ValueLaws.{body_sum, body_literals, body_unknown}
use Rattle.values.proofs.body_form.Goals as goal

pub returns-in-1 : goal.returns-in-1
returns-in-1 c = body_sum c.args.form (omega arith)

pub returns-in-2 : goal.returns-in-2
returns-in-2 c = body_literals c.args.form (omega arith)

pub returns-in-0 : goal.returns-in-0
returns-in-0 c = body_unknown c.args.form (omega arith) (omega arith)

pub returns-in-0-2 : goal.returns-in-0-2
returns-in-0-2 c = body_unknown c.args.form (omega arith) (omega arith)
