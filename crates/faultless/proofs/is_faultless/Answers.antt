-- By the form.
use Rattle.program.proofs.Places.{variables_length}
use native.Mathlib.Omega.{arith}
use Rattle.faultless.proofs.TermLaws.{says_no}
use Rattle.faultless.proofs.BodyLaws.{as_form}
use Rattle.faultless.proofs.is_faultless.Goals as goal

pub returns-in-1 : goal.returns-in-1
returns-in-1 c = λ e. as_form _ _ 1 _ (omega arith) (c.is_sum.ensures e _ (variables_length _ _))

pub returns-in-2 : goal.returns-in-2
returns-in-2 c = λ e. as_form _ _ 2 _ (omega arith) ((c.is_extreme.ensures e).0 _ (variables_length _ _))

pub returns-in-3 : goal.returns-in-3
returns-in-3 c = λ e. as_form _ _ 3 _ (omega arith) ((c.is_extreme-in-3.ensures e).1 _ (variables_length _ _))

pub returns-in-4 : goal.returns-in-4
returns-in-4 c = λ e. as_form _ _ 4 _ (omega arith) (c.is_product.ensures e)

pub returns-in-5 : goal.returns-in-5
returns-in-5 c = λ e. as_form _ _ 5 _ (omega arith) (c.is_size.ensures e _ (variables_length _ _))

pub returns-in-6 : goal.returns-in-6
returns-in-6 c = λ e. as_form _ _ 6 _ (omega arith) (c.is_if.ensures e _ (variables_length _ _))

pub returns-in-7 : goal.returns-in-7
returns-in-7 c = λ e. as_form _ _ 7 _ (omega arith) (c.is_carry.ensures e _ (variables_length _ _))

pub returns-in-0 : goal.returns-in-0
returns-in-0 c = says_no

pub returns-in-0-2 : goal.returns-in-0-2
returns-in-0-2 c = says_no
