-- Two's complement, moved up by m.
use native.Mathlib.Omega.{arith}
use Rattle.faultless.proofs.TermLaws.{near}
use Rattle.faultless.proofs.terms.is_near.Goals as goal

pub returns : goal.returns
returns c = λ e. near _ _ (omega arith) (omega arith) (rw c.joined.ensures.0 at e)
