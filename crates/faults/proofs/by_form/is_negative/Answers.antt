-- Only a product asks, and only of a declared variable.
use mathlib.Core.Path.{◌≡◌}
use native.Mathlib.Omega.{arith}
use mir.Syntax.{w64}
use mir.Val.{to_z, of_z}
use Rattle.faults.proofs.TermLaws.{negative_other, negative_declared, negative_undeclared}
use borrow.Author.Rules.{rules}
use Rattle.faults.proofs.by_form.is_negative.Goals as goal

pub returns-then-form-ne4 : goal.returns-then-form-ne4
returns-then-form-ne4 c = negative_other _ _ _ (omega arith)

pub returns-then-wide-variables : goal.returns-then-wide-variables
returns-then-wide-variables c = let z : to_z w64 (of_z w64 c.variable-v.result.low) ≡ c.variable-v.result.low = search rules in
    rw z (negative_declared _ _ _ c.args.t (omega arith) (c.variable-v.ensures _ (omega arith)))

pub returns-else-wide-variables : goal.returns-else-wide-variables
returns-else-wide-variables c = negative_undeclared _ _ _ _ (omega arith) (omega arith)
