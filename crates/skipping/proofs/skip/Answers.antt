use Prim.Native.Nat.{◌+◌}
use native.Mathlib.Omega.{arith}
use Rattle.skipping.proofs.Walk.{skipping_begun, skipping_two, skipping_leaf, skipping_inner, skipping_room, skipping_done}
use Rattle.skipping.proofs.skip.Goals as goal
use Rattle.skipping.proofs.skip.Goals.{then-s-end-ne0, else-s-end-ne0}

pub loop-need-init : goal.loop-need-init
loop-need-init c = skipping_begun _ _ _ c.requires.0 c.requires.1

pub bounds-s-end : goal.bounds-s-end
bounds-s-end c = omega (arith, skipping_two c.loop-need.invariant (omega arith))

pub overflow_add-need : goal.overflow_add-need
overflow_add-need c = omega (arith, skipping_two c.loop-need.invariant (omega arith))

pub bounds-s-end-then-s-end-ne0 : goal.bounds-s-end-then-s-end-ne0
bounds-s-end-then-s-end-ne0 c = skipping_two c.loop-need.invariant (omega arith)

pub overflow_cast-need : goal.overflow_cast-need
overflow_cast-need c = omega (arith, c.type_inv.s (c.loop-need.end + 1))

pub overflow_add-need-then-s-end-ne0 : goal.overflow_add-need-then-s-end-ne0
overflow_add-need-then-s-end-ne0 c = omega (arith, skipping_room c.loop-need.invariant (omega arith) c.if-s-end-ne0.true)

pub overflow_add-inners : goal.overflow_add-inners
overflow_add-inners c = omega (arith, c.loop-need.invariant.few, skipping_two c.loop-need.invariant (omega arith))

pub overflow_add-end : goal.overflow_add-end
overflow_add-end c = omega (arith, skipping_two c.loop-need.invariant (omega arith))

pub loop-need-smaller : goal.loop-need-smaller
loop-need-smaller c = omega (arith, skipping_two c.loop-need.invariant (omega arith))

pub loop-need-preserved : goal.loop-need-preserved
loop-need-preserved c = elim c.if-s-end-ne0.branch [
  | then-s-end-ne0 w ↦ skipping_inner c.loop-need.invariant (omega arith) _ _ w.if-s-end-ne0.true (omega arith) (omega arith)
  | else-s-end-ne0 w ↦ skipping_leaf c.loop-need.invariant (omega arith) _ _ w.if-s-end-ne0.false (omega arith) (omega arith)
]

pub returns : goal.returns
returns c = skipping_done c.loop-need.invariant (omega arith)
