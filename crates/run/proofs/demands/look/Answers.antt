-- The rule at its place, with its mask.
use Rattle.run.proofs.RunLaws.{some_at, stands_at}
use Rattle.run.proofs.demands.look.Goals as goal

pub look_at-requires : goal.look_at-requires
look_at-requires c = record { some_rule = some_at c.place_in-at.ensures c.requires.some_rule; small = c.requires.small }

pub returns : goal.returns
returns c = λ P g. rw c.mask_in-mask.ensures at (c.look_at.ensures P _ (stands_at c.place_in-at.ensures g))
