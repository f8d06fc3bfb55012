-- The inner nodes before the rest of the bytes are counted.
use mathlib.Core.Path.{ap, ◌∙◌}
use native.Mathlib.Omega.{arith}
use Rattle.std.specs.Slice.Iter.{chunks_exact_rest, chunks_exact_size}
use Rattle.nodes.proofs.InnerLaws.{counted_none, counted_inner, counted_leaf, counted_all}
use Rattle.nodes.proofs.inners.Goals as goal

pub loop-node-init : goal.loop-node-init
loop-node-init c = let e = c.into_iter-node-iterator.ensures.into_iter_gives in
    (ap chunks_exact_size e ∙ c.chunks_exact-node-items.ensures.size, counted_none (ap chunks_exact_rest e ∙ c.chunks_exact-node-items.ensures.rest))

pub overflow_add-n : goal.overflow_add-n
overflow_add-n c = omega (arith, c.loop-node.invariant.1.few)

pub loop-node-preserved-then-node-ne0 : goal.loop-node-preserved-then-node-ne0
loop-node-preserved-then-node-ne0 c = let t = c.in-Some.ensures.steps in
    (t.0 ∙ c.loop-node.invariant.0, counted_inner c.loop-node.invariant.1 _ _ t.1.0 (t.1.1 ∙ c.loop-node.invariant.0) c.if-node-ne0.true)

pub loop-node-preserved : goal.loop-node-preserved
loop-node-preserved c = let t = c.in-Some.ensures.steps in
    (t.0 ∙ c.loop-node.invariant.0, counted_leaf c.loop-node.invariant.1 _ _ t.1.0 (t.1.1 ∙ c.loop-node.invariant.0) c.if-node-ne0.false)

pub returns : goal.returns
returns c = counted_all c.loop-node.invariant.1 (omega (arith, c.loop-node.invariant.0, c.in-None.ensures.steps.1.0))
