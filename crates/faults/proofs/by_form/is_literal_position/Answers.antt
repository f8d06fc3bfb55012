-- By the form: all positions of an if, all but the first of a carry, none of the others.
use native.Mathlib.Omega.{arith}
use Rattle.faults.proofs.TermLaws.{position_if, position_carry, position_plain}
use Rattle.faults.proofs.by_form.is_literal_position.Goals as goal

pub returns-in-6 : goal.returns-in-6
returns-in-6 c = position_if _ _ (omega arith)

pub returns-in-7 : goal.returns-in-7
returns-in-7 c = position_carry _ _ (omega arith)

pub returns-in-0-to-5 : goal.returns-in-0-to-5
returns-in-0-to-5 c = position_plain _ _ (omega arith) (omega arith)
