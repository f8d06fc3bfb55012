-- One tree after the other: each stands where the one before it ends.
use Prim.Native.Nat.{◌-◌}
use native.Mathlib.Omega.{arith}
use Rattle.treechecks.proofs.TreeValues.{part_rest}
use Rattle.linking.proofs.Settling.{recorded}
use Rattle.linking.proofs.TreesMarks.{walk_begun, walk_done, walk_more}
use Rattle.linking.proofs.TreesSeen.{seen_inside, seen_long, seen_tree, seen_room}
use Rattle.linking.proofs.mark_trees.Goals as goal

pub loop-at-init : goal.loop-at-init
loop-at-init c = (c.requires.rows_len, c.requires.values_len, walk_begun _ c.requires.settled)

pub value_at-value-requires : goal.value_at-value-requires
value_at-value-requires c = seen_inside c.loop-at.invariant.2.seen (omega arith)

pub slice_bounds-mark_tree-count : goal.slice_bounds-mark_tree-count
slice_bounds-mark_tree-count c = omega (arith, seen_long c.loop-at.invariant.2.seen (omega arith) c.value_at-value.ensures)

pub slice_bounds-mark_tree-start : goal.slice_bounds-mark_tree-start
slice_bounds-mark_tree-start c = omega (arith, seen_long c.loop-at.invariant.2.seen (omega arith) c.value_at-value.ensures)

pub bounds-value-0 : goal.bounds-value-0
bounds-value-0 c = omega (arith, seen_long c.loop-at.invariant.2.seen (omega arith) c.value_at-value.ensures)

pub mark_tree-requires : goal.mark_tree-requires
mark_tree-requires c = record {
  one_tree = rw (part_rest 1 c.value_at-value.result.now) (seen_tree c.loop-at.invariant.2.seen (omega arith) c.value_at-value.ensures);
  recorded = recorded c.requires.settled;
  rows_len = c.loop-at.invariant.0;
  values_len = c.loop-at.invariant.1;
}

pub added_by-next-requires : goal.added_by-next-requires
added_by-next-requires c = seen_long c.loop-at.invariant.2.seen (omega arith) c.value_at-value.ensures

pub overflow_add-next : goal.overflow_add-next
overflow_add-next c = omega (arith, seen_room c.loop-at.invariant.2.seen (omega arith) c.value_at-value.ensures c.added_by-next.ensures.value)

pub next_at-at-requires : goal.next_at-at-requires
next_at-at-requires c = seen_inside c.loop-at.invariant.2.seen (omega arith)

pub loop-at-smaller : goal.loop-at-smaller
loop-at-smaller c = omega (arith, c.next_at-at.ensures)

pub loop-at-preserved : goal.loop-at-preserved
loop-at-preserved c = let g = rw (part_rest 1 c.value_at-value.result.now) at c.mark_tree.ensures.grown_by in
    (c.mark_tree.ensures.rows_len_2, c.mark_tree.ensures.values_len_2, walk_more c.loop-at.invariant.2 (omega arith) c.value_at-value.ensures g c.added_by-next.ensures.value c.next_at-at.ensures)

pub returns : goal.returns
returns c = record { rows_len_2 = c.loop-at.invariant.0; values_len_2 = c.loop-at.invariant.1; trees_marked = walk_done c.loop-at.invariant.2 (omega arith) }
