-- Each way of the tests is a case of the refusals 6 to 8.
use mathlib.Core.Path.{sym, ◌∙◌}
use native.Mathlib.Omega.{arith}
use Rattle.values.proofs.ValueLaws.{variable_length, variable_kind, variable_range, variable_fine, kind_of_lem, range_of}
use Rattle.values.proofs.check_variable.Goals as goal

pub returns-then-value-ne5 : goal.returns-then-value-ne5
returns-then-value-ne5 c = λ vs. variable_length _ vs (omega arith)

pub returns-in-3-to-255 : goal.returns-in-3-to-255
returns-in-3-to-255 c = λ vs. variable_kind _ vs (omega arith) (omega (arith, kind_of_lem c.variable_of-x.ensures))

pub returns-then-is_range_outside : goal.returns-then-is_range_outside
returns-then-is_range_outside c = λ vs. variable_range _ vs (omega arith) (omega (arith, kind_of_lem c.variable_of-x.ensures)) (range_of c.variable_of-x.ensures (sym c.is_range_outside.ensures ∙ c.if-is_range_outside.true))

pub returns : goal.returns
returns c = λ vs. variable_fine _ vs (omega arith) (omega (arith, kind_of_lem c.variable_of-x.ensures)) (range_of c.variable_of-x.ensures (sym c.is_range_outside.ensures ∙ c.if-is_range_outside.false))
