-- The first byte of the value is the form; a size is undecided by the variable of its one term.
use native.Mathlib.Omega.{arith}
use Rattle.run.proofs.RunLaws.{head_lies, here_headed}
use Rattle.ends.proofs.FreeLaws.{size_some, size_field, not_size, size_is}
use Rattle.ends.proofs.free.is_undecided.Goals as goal

pub value_at-value-requires : goal.value_at-value-requires
value_at-value-requires c = (head_lies c.requires.here).0

pub bounds-value-0 : goal.bounds-value-0
bounds-value-0 c = omega (arith, here_headed c.requires.here c.value_at-value.ensures)

pub returns-then-value-ne5 : goal.returns-then-value-ne5
returns-then-value-ne5 c = λ P i h. not_size h c.value_at-value.ensures _ _ c.if-value-ne5.true

pub variable_at-v-requires : goal.variable_at-v-requires
variable_at-v-requires c = (here_headed c.requires.here c.value_at-value.ensures, size_some c.requires.here c.value_at-value.ensures c.if-value-ne5.false)

pub variable-x-requires : goal.variable-x-requires
variable-x-requires c = size_field c.requires.here c.value_at-value.ensures c.if-value-ne5.false c.variable_at-v.ensures

pub returns : goal.returns
returns c = λ P i h.
    size_is h c.value_at-value.ensures _ _ c.if-value-ne5.false c.variable_at-v.ensures c.variable-x.ensures c.spans_zero.ensures
    c.is_open-open.ensures
