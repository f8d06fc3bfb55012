-- Only sizes have mixed positions. Where no position offends the rule does not; else it does unless it is idle.
use borrow.Author.Tests.{not-true, not-false}
use Rattle.validity.proofs.RuleLaws.{unmixed_offends, none_offends, some_offends}
use Rattle.validity.proofs.rules.offends.Goals as goal

pub returns-then-value-ne5 : goal.returns-then-value-ne5
returns-then-value-ne5 c = record { values_len_2 = c.requires.values_len; value = unmixed_offends _ _ _ (c.requires.only_sizes c.if-value-ne5.true) }

pub returns-then-not-offends : goal.returns-then-not-offends
returns-then-not-offends c = record { values_len_2 = c.requires.values_len; value = none_offends _ _ _ c.offends.ensures (not-true _ c.if-not-offends.true-raw) }

pub returns : goal.returns
returns c = record { values_len_2 = c.is_idle.ensures.values_len_2; value = some_offends _ _ _ c.offends.ensures (not-false _ c.if-not-offends.false-raw) c.is_idle.ensures.value }
