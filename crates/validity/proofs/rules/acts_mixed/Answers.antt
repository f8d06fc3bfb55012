-- Without a mixed position, which only sizes have, it does not act in spite of one; else it does unless it is idle.
use mathlib.Core.Path.{refl}
use borrow.Author.Tests.{not-true, not-false}
use Rattle.validity.proofs.RuleLaws.{unmixed_acts, mixed_acts}
use Rattle.validity.proofs.rules.acts_mixed.Goals as goal

pub returns-then-value-ne5 : goal.returns-then-value-ne5
returns-then-value-ne5 c = unmixed_acts _ _ refl (c.requires.only_sizes c.if-value-ne5.true)

pub returns-then-not-is_mixed : goal.returns-then-not-is_mixed
returns-then-not-is_mixed c = unmixed_acts _ _ c.is_mixed.ensures (not-true _ c.if-not-is_mixed.true-raw)

pub returns : goal.returns
returns c = mixed_acts _ _ c.is_mixed.ensures (not-false _ c.if-not-is_mixed.false-raw) c.is_idle_size-idle.ensures
