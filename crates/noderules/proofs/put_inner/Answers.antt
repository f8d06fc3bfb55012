-- Node after node; where a byte is left, a whole node is.
use native.Mathlib.Omega.{arith}
use Rattle.noderules.proofs.Lefts.{left_free, left_some, left_writable}
use Rattle.noderules.proofs.Rules.{inner_begun, inner_same, inner_done, inner_leaf, inner_room, inner_more}
use Rattle.noderules.proofs.put_inner.Goals as goal
use Rattle.noderules.proofs.put_inner.Goals.{then-s-place-ne0, else-s-place-ne0}

pub loop-place-init : goal.loop-place-init
loop-place-init c = inner_begun c.requires.0 c.requires.1

pub inner_at-requires : goal.inner_at-requires
inner_at-requires c = let two = left_some c.loop-place.invariant.left (omega arith) in
    (two, left_free c.loop-place.invariant.left two c.if-s-place-ne0.true)

pub put_node-end-requires : goal.put_node-end-requires
put_node-end-requires c = let two = left_some c.loop-place.invariant.left (omega arith) in
    rw c.inner_at.ensures (left_writable c.loop-place.invariant.left two c.if-s-place-ne0.true, inner_room c.loop-place.invariant two c.if-s-place-ne0.true)

pub overflow_add-number : goal.overflow_add-number
overflow_add-number c = omega (arith, left_free c.loop-place.invariant.left (left_some c.loop-place.invariant.left (omega arith)) c.if-s-place-ne0.true)

pub loop-place-preserved : goal.loop-place-preserved
loop-place-preserved c = let two = left_some c.loop-place.invariant.left (omega arith) in
    elim c.if-s-place-ne0.branch [
      | then-s-place-ne0 w ↦
          inner_same (inner_more c.loop-place.invariant two w.if-s-place-ne0.true (rw w.inner_at.ensures at w.put_node-end.ensures))
          w.out-is w.number-is w.end-is
      | else-s-place-ne0 w ↦ inner_same (inner_leaf c.loop-place.invariant two w.if-s-place-ne0.false) w.out-is w.number-is w.end-is
    ]

pub returns : goal.returns
returns c = inner_done c.loop-place.invariant (omega arith)

-- the last turn ends the loop
pub returns-after-s-place-ne0 : goal.returns-after-s-place-ne0
returns-after-s-place-ne0 c = let two = left_some c.loop-place.invariant.left (omega arith) in
    elim c.if-s-place-ne0.branch [
      | then-s-place-ne0 w ↦
          let k = inner_more c.loop-place.invariant two w.if-s-place-ne0.true (rw w.inner_at.ensures at w.put_node-end.ensures) in
          inner_done (inner_same k w.out-is w.number-is w.end-is) (omega arith)
      | else-s-place-ne0 w ↦
          inner_done (inner_same (inner_leaf c.loop-place.invariant two w.if-s-place-ne0.false) w.out-is w.number-is w.end-is) (omega arith)
    ]
