-- Only sizes have mixed positions.
use mathlib.Core.Path.{sym}
use Rattle.validity.proofs.rules.is_mixed.Goals as goal

pub returns-then-value-ne5 : goal.returns-then-value-ne5
returns-then-value-ne5 c = sym (c.requires.only_sizes c.if-value-ne5.true)
