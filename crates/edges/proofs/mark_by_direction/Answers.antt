-- One position after the other.
use native.Mathlib.Omega.{arith}
use Rattle.edges.proofs.PositionLaws.{grown_none, grown_more, draws_done}
use Rattle.edges.proofs.mark_by_direction.Goals as goal

pub loop-i-init : goal.loop-i-init
loop-i-init c = (c.requires.rows_len, grown_none _ _)

pub mark_position-requires : goal.mark_position-requires
mark_position-requires c = record { standing = c.requires.standing; opened_is = c.requires.opened_is; i_in_bounds = (omega arith, c.loop-i.invariant.0) }

pub loop-i-preserved : goal.loop-i-preserved
loop-i-preserved c = (c.mark_position.ensures.rows_len, grown_more _ _ c.loop-i.invariant.1 c.mark_position.ensures.grown)

pub returns : goal.returns
returns c = record { rows_len_2 = c.loop-i.invariant.0; grown = draws_done _ _ (omega arith) c.loop-i.invariant.1 }
