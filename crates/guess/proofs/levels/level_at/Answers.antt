use mathlib.Core.Path.{sym, ◌∙◌}
use Rattle.run.proofs.RunLaws.{lies, head_lies, head_field, here_evaluable, here_headed}
use Rattle.guess.proofs.levels.level_at.Goals as goal

pub head_at-requires : goal.head_at-requires
head_at-requires c = head_lies c.requires.some_rule.here

pub variable-x-requires : goal.variable-x-requires
variable-x-requires c = head_field c.requires.some_rule.here c.head_at.ensures

pub value_at-value-requires : goal.value_at-value-requires
value_at-value-requires c = (lies c.requires.some_rule.here).inside

pub header-rule-requires : goal.header-rule-requires
header-rule-requires c = here_headed c.requires.some_rule.here c.value_at-value.ensures

pub quotient_level-requires : goal.quotient_level-requires
quotient_level-requires c = record { evaluable = (here_evaluable c.requires.some_rule.here c.value_at-value.ensures, here_headed c.requires.some_rule.here c.value_at-value.ensures, sym c.header-rule.ensures.form_is ∙ c.if-rule-eq8.true); small = c.requires.small }
