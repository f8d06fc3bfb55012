-- The rule stands at its place.
use Rattle.run.proofs.RunLaws.{head_lies, head_field}
use Rattle.guess.proofs.live.is_live.Goals as goal

pub head_at-head-requires : goal.head_at-head-requires
head_at-head-requires c = head_lies c.requires.some_rule.here

pub variable-x-requires : goal.variable-x-requires
variable-x-requires c = head_field c.requires.some_rule.here c.head_at-head.ensures
