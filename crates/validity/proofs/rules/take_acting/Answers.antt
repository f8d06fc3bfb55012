-- A rule that does not act leaves the set as it was; another has its mixed position first.
use borrow.Author.Tests.{not-true, not-false}
use Rattle.validity.proofs.RuleLaws.{none_acts, one_acts, acts_inside}
use Rattle.validity.proofs.rules.take_acting.Goals as goal

pub returns-then-not-acts_mixed : goal.returns-then-not-acts_mixed
returns-then-not-acts_mixed c = λ v. none_acts _ _ _ c.acts_mixed.ensures (not-true _ c.if-not-acts_mixed.true-raw) v

pub variable_at-requires : goal.variable_at-requires
variable_at-requires c = (c.requires.ready.standing.headed, acts_inside _ _ c.acts_mixed.ensures (not-false _ c.if-not-acts_mixed.false-raw))

pub returns : goal.returns
returns c = λ v.
    one_acts _ _ _ c.acts_mixed.ensures (not-false _ c.if-not-acts_mixed.false-raw) c.variable_at.ensures v (c.insert.ensures v)
