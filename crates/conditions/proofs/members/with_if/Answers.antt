-- By cases on whether x is wanted.
use Rattle.conditions.proofs.MemberLaws.{with_one, with_none}
use Rattle.conditions.proofs.members.with_if.Goals as goal

pub returns-then-wanted : goal.returns-then-wanted
returns-then-wanted c = with_one _ _ c.if-wanted.true c.insert.ensures

pub returns-else-wanted : goal.returns-else-wanted
returns-else-wanted c = with_none _ _ c.if-wanted.false
