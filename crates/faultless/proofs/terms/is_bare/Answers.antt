-- Its op and its number are 0.
use native.Mathlib.Omega.{arith}
use Rattle.faultless.proofs.TermLaws.{says_no, bare}
use Rattle.faultless.proofs.terms.is_bare.Goals as goal

pub returns-then-op-ne0 : goal.returns-then-op-ne0
returns-then-op-ne0 c = says_no

pub returns : goal.returns
returns c = bare _ _ (omega arith) (omega arith) c.joined.ensures.0
