use Rattle.run.proofs.RunLaws.{lies, head_lies, head_field, here_evaluable, here_headed}
use borrow.Author.Rules.{rules}
use Rattle.guess.proofs.targets.lower_at.Goals as goal

pub head_at-head-requires : goal.head_at-head-requires
head_at-head-requires c = head_lies c.requires.some_rule.here

pub variable-x-requires : goal.variable-x-requires
variable-x-requires c = head_field c.requires.some_rule.here c.head_at-head.ensures

pub value_at-requires : goal.value_at-requires
value_at-requires c = (lies c.requires.some_rule.here).inside

pub estimate-given-requires : goal.estimate-given-requires
estimate-given-requires c = record { evaluable = here_evaluable c.requires.some_rule.here c.value_at.ensures; rule_header_in_bounds = here_headed c.requires.some_rule.here c.value_at.ensures; small = (c.requires.small.0, c.requires.target_len.1, c.requires.small.1) }

pub put-requires : goal.put-requires
put-requires c = (c.requires.target_len.0, search rules, c.requires.target_len.1)
