-- By the tag: the value of a variable, a rule or a constraint.
use native.Mathlib.Omega.{arith}
use Rattle.fields.proofs.FieldLaws.{value_tag, tag_last}
use Rattle.fields.proofs.checks.check_value.Goals as goal

pub returns-in-1 : goal.returns-in-1
returns-in-1 c = value_tag _ _ 1 _ _ (omega arith) (c.check_variable.ensures _)

pub returns-in-2 : goal.returns-in-2
returns-in-2 c = value_tag _ _ 2 _ _ (omega arith) c.check_rule.ensures

pub returns-in_default : goal.returns-in_default
returns-in_default c = value_tag _ _ 3 _ _ (tag_last _ c.requires.1 (omega arith) (omega arith)) c.check_constraint.ensures
