-- No position before i is mixed, and one that is answers.
use mathlib.Core.Path.{sym, ◌∙◌}
use native.Mathlib.Omega.{arith}
use Rattle.program.proofs.Conditions.{any_none, any_more}
use Rattle.edges.proofs.PositionLaws.{mixed_some, mixed_done}
use Rattle.edges.proofs.mixed.is_mixed.Goals as goal

pub loop-i-init : goal.loop-i-init
loop-i-init c = any_none _

pub is_mixed_position-requires : goal.is_mixed_position-requires
is_mixed_position-requires c = record { standing = c.requires; opened_is = c.open_rule-rule.ensures; i_in_bounds = omega arith }

pub returns-then-is_mixed_position : goal.returns-then-is_mixed_position
returns-then-is_mixed_position c = mixed_some _ _ (omega arith) (sym c.is_mixed_position.ensures ∙ c.if-is_mixed_position.true)

pub loop-i-preserved : goal.loop-i-preserved
loop-i-preserved c = any_more _ _ _ _ c.loop-i.invariant (sym c.if-is_mixed_position.false ∙ c.is_mixed_position.ensures)

pub returns : goal.returns
returns c = mixed_done _ _ (omega arith) c.loop-i.invariant
