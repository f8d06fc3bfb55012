-- The rules of the inner nodes before the rest of the bytes are counted.
use mathlib.Core.Path.{◌∙◌}
use native.Mathlib.Omega.{arith}
use lib.ListN.{length-drop}
use Rattle.nodes.proofs.SizeLaws.{sized_inner, sized_leaf, sized_all}
use Rattle.nodes.proofs.size_from.Goals as goal

pub loop-node-preserved-then-node-ne0 : goal.loop-node-preserved-then-node-ne0
loop-node-preserved-then-node-ne0 c = let t = c.in-Some.ensures.steps in
    (t.0 ∙ c.loop-node.invariant.0, sized_inner c.loop-node.invariant.1 _ _ t.1.0 (t.1.1 ∙ c.loop-node.invariant.0) c.if-node-ne0.true (omega arith))

pub loop-node-preserved : goal.loop-node-preserved
loop-node-preserved c = let t = c.in-Some.ensures.steps in
    (t.0 ∙ c.loop-node.invariant.0, sized_leaf c.loop-node.invariant.1 _ _ t.1.0 (t.1.1 ∙ c.loop-node.invariant.0) c.if-node-ne0.false)

pub returns : goal.returns
returns c = let i = c.loop-node.invariant.1 in
    (sized_all i (omega (arith, c.loop-node.invariant.0, c.in-None.ensures.steps.1.0)), omega (arith, i.few, length-drop c.args.from c.args.s.now))
