-- By the form: each has its own test of the count.
use mathlib.Core.Path.{◌∙◌}
use native.Mathlib.Omega.{arith}
use Rattle.values.proofs.ValueLaws.{count_form, count_sum, count_max, count_min, count_product, count_size, count_if, count_carry, count_unknown}
use Rattle.values.proofs.is_wrong_count.Goals as goal

pub returns-in-1 : goal.returns-in-1
returns-in-1 c = count_form _ 1 _ _ (omega arith) (c.is_not_from.ensures ∙ count_sum _)

pub returns-in-2 : goal.returns-in-2
returns-in-2 c = count_form _ 2 _ _ (omega arith) (c.is_not_from-in-2.ensures ∙ count_max _)

pub returns-in-3 : goal.returns-in-3
returns-in-3 c = count_form _ 3 _ _ (omega arith) (c.is_not_from-in-3.ensures ∙ count_min _)

pub returns-in-4 : goal.returns-in-4
returns-in-4 c = count_form _ 4 _ _ (omega arith) (count_product _)

pub returns-in-5 : goal.returns-in-5
returns-in-5 c = count_form _ 5 _ _ (omega arith) (count_size _)

pub returns-in-6 : goal.returns-in-6
returns-in-6 c = count_form _ 6 _ _ (omega arith) (c.is_not_from-in-6.ensures ∙ count_if _)

pub returns-in-7 : goal.returns-in-7
returns-in-7 c = count_form _ 7 _ _ (omega arith) (c.is_not_from-in-7.ensures ∙ count_carry _)

pub returns-in-0 : goal.returns-in-0
returns-in-0 c = count_unknown _ _ (omega arith) (omega arith) (omega arith) (omega arith) (omega arith) (omega arith) (omega arith)

pub returns-in-0-2 : goal.returns-in-0-2
returns-in-0-2 c = count_unknown _ _ (omega arith) (omega arith) (omega arith) (omega arith) (omega arith) (omega arith) (omega arith)
