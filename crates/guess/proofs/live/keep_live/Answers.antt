use mathlib.Core.Path.{refl}
use native.Mathlib.Omega.{arith}
use Rattle.validity.proofs.ComponentLaws.{values_none}
use Rattle.guess.proofs.live.keep_live.Goals as goal

pub top_all-requires : goal.top_all-requires
top_all-requires c = (c.requires.variables_in_bounds.0, refl, values_none 256)

pub loop-i-init : goal.loop-i-init
loop-i-init c = (c.requires.small.1, c.top_all.ensures.1, omega arith)

pub is_live-kept-requires : goal.is_live-kept-requires
is_live-kept-requires c = record { some_rule = rw c.place_in.ensures (c.requires.variables_in_bounds.2 c.loop-i.i (omega arith)); small = (c.loop-i.invariant.1, c.requires.small.0) }
