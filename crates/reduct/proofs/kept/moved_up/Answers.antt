-- A shift by one, and the new lowest bit.
use Rattle.reduct.proofs.MaskLaws.{push_one, push_none}
use Rattle.reduct.proofs.kept.moved_up.Goals as goal

pub returns-then-lowest : goal.returns-then-lowest
returns-then-lowest c = push_one _ c.if-lowest.true

pub returns-else-lowest : goal.returns-else-lowest
returns-else-lowest c = push_none _ c.if-lowest.false
