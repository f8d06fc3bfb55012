-- The forms 1 to 7 are known, 0 and all above are not.
use native.Mathlib.Omega.{arith}
use Rattle.values.proofs.ValueLaws.{form_known, form_zero, form_above}
use Rattle.values.proofs.is_unknown_form.Goals as goal

pub returns-in-1-to-8 : goal.returns-in-1-to-8
returns-in-1-to-8 c = form_known _ (omega arith) (omega arith)

pub returns-in-0 : goal.returns-in-0
returns-in-0 c = form_zero _ (omega arith)

pub returns-in-0-2 : goal.returns-in-0-2
returns-in-0-2 c = form_above _ (omega arith)
