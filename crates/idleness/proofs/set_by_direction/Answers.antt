-- One position after the other: no later one names the variable of an earlier one.
use native.Mathlib.Omega.{arith}
use Rattle.idleness.proofs.MostLaws.{taken_none, taken_more, taken_all}
use Rattle.idleness.proofs.set_by_direction.Goals as goal

pub loop-i-init : goal.loop-i-init
loop-i-init c = taken_none _ _ _ c.requires.values_len.0 c.requires.values_len.1

pub set_position-requires : goal.set_position-requires
set_position-requires c = record { ready = c.requires.ready; opened_is = c.requires.opened_is; i_in_bounds = (omega arith, c.loop-i.invariant.long) }

pub loop-i-preserved : goal.loop-i-preserved
loop-i-preserved c = taken_more _ _ _ c.requires.ready (omega arith) c.loop-i.invariant c.set_position.ensures

pub returns : goal.returns
returns c = record { values_len_2 = (c.loop-i.invariant.long, c.loop-i.invariant.small); by_index = taken_all _ _ _ (omega arith) c.loop-i.invariant }
