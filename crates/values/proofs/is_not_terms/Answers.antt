-- Shorter than the header, no multiple of four after it, or by the number of terms.
use native.Mathlib.Omega.{arith}
use Rattle.values.proofs.ValueLaws.{terms_short, terms_uneven, terms_even}
use Rattle.values.proofs.is_not_terms.Goals as goal

pub returns-then-len-header : goal.returns-then-len-header
returns-then-len-header c = terms_short _ _ _ (omega arith)

pub returns-then-rest-ne0 : goal.returns-then-rest-ne0
returns-then-rest-ne0 c = terms_uneven _ _ _ (omega arith) (omega arith)

pub returns : goal.returns
returns c = terms_even _ _ _ (omega arith) (omega arith)
