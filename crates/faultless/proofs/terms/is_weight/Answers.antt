-- Its op is 0 and its number a coefficient.
use native.Mathlib.Omega.{arith}
use Rattle.faultless.proofs.TermLaws.{says_no, weight}
use Rattle.faultless.proofs.terms.is_weight.Goals as goal

pub returns-then-op-ne0 : goal.returns-then-op-ne0
returns-then-op-ne0 c = says_no

pub returns-then-joined-eq0 : goal.returns-then-joined-eq0
returns-then-joined-eq0 c = says_no

pub returns : goal.returns
returns c = λ e. weight _ _ (omega arith) (omega arith) c.joined.ensures.0 c.if-joined-eq0.false (c.is_near.ensures e)
