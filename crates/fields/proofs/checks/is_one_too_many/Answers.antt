-- By the tag: the count of its kind against its limit.
use native.Mathlib.Omega.{arith}
use Rattle.fields.proofs.FieldLaws.{many_variables, many_rules, many_constraints, many_unknown}
use Rattle.fields.proofs.checks.is_one_too_many.Goals as goal

pub returns-in-1 : goal.returns-in-1
returns-in-1 c = λ P a b d. many_variables P _ _ a (omega arith)

pub returns-in-2 : goal.returns-in-2
returns-in-2 c = λ P a b d. many_rules P _ _ b (omega arith)

pub returns-in-3 : goal.returns-in-3
returns-in-3 c = λ P a b d. many_constraints P _ _ d (omega arith)

pub returns-in-0 : goal.returns-in-0
returns-in-0 c = λ P a b d. many_unknown P _ (λ x y. omega arith)

pub returns-in-0-2 : goal.returns-in-0-2
returns-in-0-2 c = λ P a b d. many_unknown P _ (λ x y. omega arith)
