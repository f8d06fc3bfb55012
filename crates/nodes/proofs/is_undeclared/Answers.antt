-- No leaf before the rest of the bytes is undeclared.
use mathlib.Core.Path.{◌∙◌}
use native.Mathlib.Omega.{arith}
use borrow.Author.Tests.{le-leb, lt-leb}
use lib.Dec.{leb}
use Rattle.flat.specs.Flat.{any_in}
use Rattle.nodes.proofs.LeafLaws.{at_inner, any_found, any_passed, any_none}
use Rattle.nodes.proofs.is_undeclared.Goals as goal

pub returns-then-n-x : goal.returns-then-n-x
returns-then-n-x c = let t = c.in-Some.ensures.steps in
    any_found (leb c.args.n) _ c.loop-node.invariant.1 _ _ t.1.0 (t.1.1 ∙ c.loop-node.invariant.0) c.if-node-eq0.true (le-leb _ _ c.if-n-x.true)

pub loop-node-preserved-else-n-x : goal.loop-node-preserved-else-n-x
loop-node-preserved-else-n-x c = let t = c.in-Some.ensures.steps in (
  t.0 ∙ c.loop-node.invariant.0,
  any_passed (leb c.args.n) _ c.loop-node.invariant.1 _ _ t.1.0 (t.1.1 ∙ c.loop-node.invariant.0) c.if-node-eq0.true (lt-leb _ _ c.if-n-x.false),
)

pub loop-node-preserved : goal.loop-node-preserved
loop-node-preserved c = let t = c.in-Some.ensures.steps in (
  t.0 ∙ c.loop-node.invariant.0,
  at_inner (any_in (leb c.args.n)) _ c.loop-node.invariant.1 _ _ t.1.0 (t.1.1 ∙ c.loop-node.invariant.0) c.if-node-eq0.false,
)

pub returns : goal.returns
returns c = any_none (leb c.args.n) _ c.loop-node.invariant.1 (omega (arith, c.loop-node.invariant.0, c.in-None.ensures.steps.1.0))
