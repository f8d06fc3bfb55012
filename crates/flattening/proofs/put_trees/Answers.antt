-- One tree after the other: each stands where the one before it ends, and its rules are put in after those before it.
use Prim.Native.Nat.{◌-◌}
use native.Mathlib.Omega.{arith}
use Rattle.treechecks.proofs.TreeValues.{part_rest}
use Rattle.linking.proofs.TreesSeen.{seen_inside, seen_long, seen_tree, seen_room}
use Rattle.flattening.proofs.TreesPutting.{put_begun, put_done, put_all_length, put_room, put_more}
use Rattle.flattening.proofs.put_trees.Goals as goal

pub loop-place-init : goal.loop-place-init
loop-place-init c = put_begun c.requires.settled c.requires.trees_fit

pub value_at-value-requires : goal.value_at-value-requires
value_at-value-requires c = seen_inside c.loop-place.invariant.seen (omega arith)

pub slice_bounds-put_tree-count : goal.slice_bounds-put_tree-count
slice_bounds-put_tree-count c = omega (arith, seen_long c.loop-place.invariant.seen (omega arith) c.value_at-value.ensures)

pub slice_bounds-put_tree-start : goal.slice_bounds-put_tree-start
slice_bounds-put_tree-start c = omega (arith, seen_long c.loop-place.invariant.seen (omega arith) c.value_at-value.ensures)

pub bounds-value-0 : goal.bounds-value-0
bounds-value-0 c = omega (arith, seen_long c.loop-place.invariant.seen (omega arith) c.value_at-value.ensures)

pub put_tree-end-requires : goal.put_tree-end-requires
put_tree-end-requires c = record {
  one_tree = rw (part_rest 1 c.value_at-value.result.now) (seen_tree c.loop-place.invariant.seen (omega arith) c.value_at-value.ensures).0;
  s_in_bounds = rw (part_rest 1 c.value_at-value.result.now) (put_room c.loop-place.invariant (omega arith) c.value_at-value.ensures);
}

pub added_by-next-requires : goal.added_by-next-requires
added_by-next-requires c = seen_long c.loop-place.invariant.seen (omega arith) c.value_at-value.ensures

pub overflow_add-next : goal.overflow_add-next
overflow_add-next c = omega (arith, seen_room c.loop-place.invariant.seen (omega arith) c.value_at-value.ensures c.added_by-next.ensures.value)

pub next_at-place-requires : goal.next_at-place-requires
next_at-place-requires c = seen_inside c.loop-place.invariant.seen (omega arith)

pub loop-place-smaller : goal.loop-place-smaller
loop-place-smaller c = omega (arith, c.next_at-place.ensures)

pub loop-place-preserved : goal.loop-place-preserved
loop-place-preserved c = let m = rw (part_rest 1 c.value_at-value.result.now) at c.put_tree-end.ensures in
    put_more c.loop-place.invariant (omega arith) c.value_at-value.ensures m c.added_by-next.ensures.value c.next_at-place.ensures

pub shape_of-buffer : goal.shape_of-buffer
shape_of-buffer c = put_all_length c.loop-place.invariant (omega arith)

pub returns : goal.returns
returns c = put_done c.loop-place.invariant (omega arith)
