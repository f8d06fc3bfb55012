use mathlib.Core.Path.{sym, ◌∙◌}
use Rattle.run.proofs.RunLaws.{lies, here_evaluable, here_headed}
use Rattle.guess.proofs.strides.stride_at.Goals as goal

pub value_at-value-requires : goal.value_at-value-requires
value_at-value-requires c = (lies c.requires.here).inside

pub header-rule-requires : goal.header-rule-requires
header-rule-requires c = here_headed c.requires.here c.value_at-value.ensures

pub add_positions-sum-requires : goal.add_positions-sum-requires
add_positions-sum-requires c = (here_headed c.requires.here c.value_at-value.ensures, (here_evaluable c.requires.here c.value_at-value.ensures).few)

pub divisor-requires : goal.divisor-requires
divisor-requires c = (here_headed c.requires.here c.value_at-value.ensures, sym c.header-rule.ensures.form_is ∙ c.if-rule-eq8.true)

pub add_positions-requires : goal.add_positions-requires
add_positions-requires c = (here_headed c.requires.here c.value_at-value.ensures, (here_evaluable c.requires.here c.value_at-value.ensures).few)
