use native.Mathlib.Omega.{arith}
use Rattle.descent.proofs.InnerBytes.{inner_known, form_below, form_above, count_below, count_above}
use Rattle.descent.proofs.is_inner.Goals as goal

pub returns-in-1-to-16 : goal.returns-in-1-to-16
returns-in-1-to-16 c = inner_known c.args.form c.args.n (omega arith) (omega arith) (omega arith) (omega arith)

pub returns-in-0-n : goal.returns-in-0-n
returns-in-0-n c = count_below c.args.form c.args.n (omega arith)

pub returns-in-0-n-2 : goal.returns-in-0-n-2
returns-in-0-n-2 c = count_above c.args.form c.args.n (omega arith)

pub returns-in-0 : goal.returns-in-0
returns-in-0 c = form_below c.args.form c.args.n (omega arith)

pub returns-in-0-2 : goal.returns-in-0-2
returns-in-0-2 c = form_above c.args.form c.args.n (omega arith)
