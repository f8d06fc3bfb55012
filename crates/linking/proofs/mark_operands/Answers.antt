-- One operand after the other.
use native.Mathlib.Omega.{arith}
use Rattle.edges.proofs.PositionLaws.{grown_none, grown_more, draws_done}
use Rattle.linking.proofs.mark_operands.Goals as goal

pub loop-i-init : goal.loop-i-init
loop-i-init c = (omega arith, omega (arith, c.positions-n.ensures), c.requires.rows_len, grown_none _ _)

pub mark_operand-requires : goal.mark_operand-requires
mark_operand-requires c = record { standing = c.requires.standing; i_in_bounds = (omega arith, c.loop-i.invariant.2) }

pub loop-i-preserved : goal.loop-i-preserved
loop-i-preserved c = (omega arith, omega arith, c.mark_operand.ensures.rows_len, grown_more _ _ c.loop-i.invariant.3 c.mark_operand.ensures.grown)

pub returns : goal.returns
returns c = record { rows_len_2 = c.loop-i.invariant.2; grown = draws_done _ _ (omega arith) c.loop-i.invariant.3 }
