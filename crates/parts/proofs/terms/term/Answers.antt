-- The 4 bytes are those of term i.
use native.Mathlib.Omega.{arith}
use Rattle.parts.proofs.Bytes.{term_part}
use Rattle.parts.proofs.terms.term.Goals as goal

pub returns : goal.returns
returns c = term_part _ _ (omega arith) c.whole.ensures
