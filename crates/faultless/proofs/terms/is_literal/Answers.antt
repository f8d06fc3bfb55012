-- By the op, and then by the number.
use native.Mathlib.Omega.{arith}
use Rattle.faultless.proofs.TermLaws.{says_no, literal}
use Rattle.faultless.proofs.terms.is_literal.Goals as goal

pub returns-in-1 : goal.returns-in-1
returns-in-1 c = λ e. literal _ _ (omega arith) (omega arith) (omega arith) (c.is_near.ensures e)

pub returns-in-0 : goal.returns-in-0
returns-in-0 c = says_no

pub returns-in-0-2 : goal.returns-in-0-2
returns-in-0-2 c = says_no
