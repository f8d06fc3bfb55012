-- No position before i is mixed with its variable in the head's component, and one that is answers.
use mathlib.Core.Path.{sym, ◌∙◌}
use native.Mathlib.Omega.{arith}
use Rattle.program.proofs.Conditions.{any_none, any_more}
use Rattle.edges.proofs.PositionLaws.{offends_some, offends_done}
use Rattle.edges.proofs.mixed.offends.Goals as goal

pub loop-i-init : goal.loop-i-init
loop-i-init c = any_none _

pub offends_position-requires : goal.offends_position-requires
offends_position-requires c = record { lent = c.requires.lent; standing = c.requires.standing; opened_is = c.open_rule-rule.ensures; i_in_bounds = omega arith }

pub returns-then-offends_position : goal.returns-then-offends_position
returns-then-offends_position c = offends_some _ _ _ (omega arith) (sym c.offends_position.ensures ∙ c.if-offends_position.true)

pub loop-i-preserved : goal.loop-i-preserved
loop-i-preserved c = any_more _ _ _ _ c.loop-i.invariant (sym c.if-offends_position.false ∙ c.offends_position.ensures)

pub returns : goal.returns
returns c = offends_done _ _ _ (omega arith) c.loop-i.invariant
