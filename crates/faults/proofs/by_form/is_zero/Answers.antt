-- A number is 0 exactly where its absolute value is.
use Rattle.faults.proofs.TermLaws.{zero_bits}
use Rattle.faults.proofs.by_form.is_zero.Goals as goal

pub returns : goal.returns
returns c = zero_bits _ c.ranges.v
