-- The root's rule, then one inner node after the other.
use Prim.Native.Nat.{◌+◌, ◌*◌}
use mathlib.Core.Path.{◌≡◌, sym, subst}
use native.Mathlib.Omega.{arith}
use Rattle.noderules.proofs.Lefts.{left_begun, left_free, left_writable}
use Rattle.linking.specs.Drawing.{FineRule}
use Rattle.linking.proofs.TreeMarks.{marks_begun, marks_done, marks_leaf, marks_one, marks_inner, flat_all, flat_drawn}
use Rattle.linking.proofs.mark_tree.Goals as goal
use Rattle.linking.proofs.mark_tree.Goals.{then-s-place-ne0, else-s-place-ne0}

pub root-requires : goal.root-requires
root-requires c = c.requires.one_tree.0

pub mark_node-requires : goal.mark_node-requires
mark_node-requires c = let f = flat_all _ _ _ (FineRule c.args.records.now c.args.variables) c.requires.one_tree.1 in
    record {
      writable = (c.root.ensures.writable.0, subst (FineRule c.args.records.now c.args.variables) (sym c.root.ensures.writable.1) f.0);
      recorded = c.requires.recorded;
      rows_len = c.requires.rows_len;
      values_len = c.requires.values_len;
    }

pub loop-k-init : goal.loop-k-init
loop-k-init c = (c.mark_node.ensures.rows_len_2, c.mark_node.ensures.values_len_2, marks_begun _ _ (left_begun c.requires.one_tree.0.0 _ c.requires.one_tree.0.1))

pub inner_at-requires : goal.inner_at-requires
inner_at-requires c = (omega arith, left_free c.loop-k.invariant.2.left (omega arith) c.if-s-place-ne0.true)

pub mark_node-requires-then-s-place-ne0 : goal.mark_node-requires-then-s-place-ne0
mark_node-requires-then-s-place-ne0 c = let p = FineRule c.args.records.now c.args.variables in
    let f = marks_one c.loop-k.invariant.2 (omega arith) c.if-s-place-ne0.true p (flat_all _ _ _ p c.requires.one_tree.1).1 in
    record {
      writable = rw c.inner_at.ensures (left_writable c.loop-k.invariant.2.left (omega arith) c.if-s-place-ne0.true, f);
      recorded = c.requires.recorded;
      rows_len = c.loop-k.invariant.0;
      values_len = c.loop-k.invariant.1;
    }

pub overflow_add-number : goal.overflow_add-number
overflow_add-number c = omega (arith, left_free c.loop-k.invariant.2.left (omega arith) c.if-s-place-ne0.true)

pub loop-k-preserved : goal.loop-k-preserved
loop-k-preserved c =
    let e : 2 * c.loop-k.k + 2 ≡ 2 * (c.loop-k.k + 1) = omega arith in
    elim c.if-s-place-ne0.branch [
      | then-s-place-ne0 w ↦
          let m = w.mark_node-then-s-place-ne0.ensures in
          rw (w.rows-is, w.values-is, w.number-is) (
            m.rows_len_2,
            m.values_len_2,
            rw e at (marks_inner c.loop-k.invariant.2 (omega arith) w.if-s-place-ne0.true (rw w.inner_at.ensures at m.grown_by)),
          )
      | else-s-place-ne0 w ↦
          rw (w.rows-is, w.values-is, w.number-is)
          (c.loop-k.invariant.0, c.loop-k.invariant.1, rw e at (marks_leaf c.loop-k.invariant.2 (omega arith) w.if-s-place-ne0.false))
    ]

pub returns : goal.returns
returns c = record { rows_len_2 = c.loop-k.invariant.0; values_len_2 = c.loop-k.invariant.1; grown_by = flat_drawn _ _ _ _ c.root.ensures.writable.1 c.mark_node.ensures.grown_by (marks_done c.loop-k.invariant.2 (omega arith)) }
