use mathlib.Core.Path.{refl, sym}
use native.Mathlib.Omega.{arith}
use Rattle.nesting.proofs.Surveys.{stray_known, stray_zero, stray_above}
use Rattle.nesting.proofs.stray.Goals as goal

pub returns-in-1-to-3 : goal.returns-in-1-to-3
returns-in-1-to-3 c = (sym (stray_known (omega arith) (omega arith)), refl)

pub returns-in-0 : goal.returns-in-0
returns-in-0 c = (sym (stray_zero (omega arith)), refl)

pub returns-in-0-2 : goal.returns-in-0-2
returns-in-0-2 c = (sym (stray_above (omega arith)), refl)
