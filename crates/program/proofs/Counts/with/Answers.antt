-- By the tag: one more of its kind, and an unknown tag counts for none.
use native.Mathlib.Omega.{arith}
use Rattle.program.proofs.Counting.{one_variable, one_rule, one_constraint, one_unknown}
use Rattle.program.proofs.Counts.with.Goals as goal

pub returns-in-1 : goal.returns-in-1
returns-in-1 c = one_variable _ _ (omega arith)

pub returns-in-2 : goal.returns-in-2
returns-in-2 c = one_rule _ _ (omega arith)

pub returns-in-3 : goal.returns-in-3
returns-in-3 c = one_constraint _ _ (omega arith)

pub returns-in-0 : goal.returns-in-0
returns-in-0 c = one_unknown _ _ (omega arith) (omega arith) (omega arith)

pub returns-in-0-2 : goal.returns-in-0-2
returns-in-0-2 c = one_unknown _ _ (omega arith) (omega arith) (omega arith)
