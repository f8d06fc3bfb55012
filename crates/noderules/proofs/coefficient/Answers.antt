use native.Mathlib.Omega.{arith}
use Rattle.noderules.proofs.Terms.{number_sum, number_other}
use Rattle.noderules.proofs.coefficient.Goals as goal

pub returns-in-1 : goal.returns-in-1
returns-in-1 c = number_sum _ c.in-1.is

pub returns-in-0 : goal.returns-in-0
returns-in-0 c = number_other c.args.form (λ e. omega arith)

pub returns-in-0-2 : goal.returns-in-0-2
returns-in-0-2 c = number_other c.args.form (λ e. omega arith)
