-- No position before j has the variable of position i.
use Rattle.program.proofs.Conditions.{any_none}
use native.Mathlib.Omega.{arith}
use Rattle.faults.proofs.TermLaws.{repeated_none, repeated_some, repeated_done}
use Rattle.faults.proofs.by_form.is_repeated.Goals as goal

pub loop-j-init : goal.loop-j-init
loop-j-init c = any_none _

pub returns-then-body-j : goal.returns-then-body-j
returns-then-body-j c = repeated_some _ _ (omega arith) c.loop-j.j (omega arith) c.if-body-j.true

pub loop-j-preserved : goal.loop-j-preserved
loop-j-preserved c = repeated_none _ _ (omega arith) _ (omega arith) c.if-body-j.false c.loop-j.invariant

pub returns : goal.returns
returns c = repeated_done _ _ (omega arith) c.loop-j.j (omega arith) c.loop-j.invariant
