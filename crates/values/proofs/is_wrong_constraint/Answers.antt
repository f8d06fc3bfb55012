-- By the constraint's form.
use native.Mathlib.Omega.{arith}
use Rattle.values.proofs.ValueLaws.{constraint_sum, constraint_literals, constraint_unknown}
use mir.Facts.{to_z-of_z}
use Rattle.values.proofs.is_wrong_constraint.Goals as goal

pub returns-in-1 : goal.returns-in-1
returns-in-1 c = constraint_sum _ _ (omega arith)

pub returns-in-2 : goal.returns-in-2
returns-in-2 c = constraint_literals _ _ _ (simp (to_z-of_z c.ranges.c) at c.is_zero.ensures) (omega arith)

pub returns-in-0 : goal.returns-in-0
returns-in-0 c = constraint_unknown _ _ (omega arith) (omega arith)

pub returns-in-0-2 : goal.returns-in-0-2
returns-in-0-2 c = constraint_unknown _ _ (omega arith) (omega arith)
