-- The tags 1 to 3 are known, 0 and all above are not.
use native.Mathlib.Omega.{arith}
use Rattle.fields.proofs.FieldLaws.{tag_known, tag_zero, tag_above}
use Rattle.fields.proofs.checks.is_unknown_tag.Goals as goal

pub returns-in-1-to-3 : goal.returns-in-1-to-3
returns-in-1-to-3 c = tag_known _ (omega arith) (omega arith)

pub returns-in-0 : goal.returns-in-0
returns-in-0 c = tag_zero _ (omega arith)

pub returns-in-0-2 : goal.returns-in-0-2
returns-in-0-2 c = tag_above _ (omega arith)
