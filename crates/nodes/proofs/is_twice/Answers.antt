-- No variable stands at two leaves before the rest of the bytes, and those that stand there are seen.
use mathlib.Core.Path.{sym, ap, ◌∙◌}
use native.Mathlib.Omega.{arith}
use Rattle.std.specs.Slice.Iter.{chunks_exact_rest, chunks_exact_size}
use Rattle.words.specs.Bit.{has}
use Rattle.flat.specs.Flat.{leaves_in, twice_with}
use Rattle.nodes.proofs.LeafLaws.{at_inner, twice_begun, twice_found, twice_passed, twice_none}
use Rattle.nodes.proofs.is_twice.Goals as goal

pub loop-node-init : goal.loop-node-init
loop-node-init c = let e = c.into_iter-node-iterator.ensures.into_iter_gives in (
  ap chunks_exact_size e ∙ c.chunks_exact-node-items.ensures.size,
  twice_begun _ _ c.empty-seen.ensures ∙ ap (λ xs. twice_with (has c.empty-seen.result.words) (leaves_in xs)) (sym (ap chunks_exact_rest e ∙ c.chunks_exact-node-items.ensures.rest)),
)

pub returns-then-contains : goal.returns-then-contains
returns-then-contains c = let t = c.in-Some.ensures.steps in
    twice_found (has c.loop-node.seen.words) _ c.loop-node.invariant.1 _ _ t.1.0 (t.1.1 ∙ c.loop-node.invariant.0) c.if-node-eq0.true
    (sym c.contains.ensures ∙ c.if-contains.true)

pub loop-node-preserved-then-node-eq0 : goal.loop-node-preserved-then-node-eq0
loop-node-preserved-then-node-eq0 c = let t = c.in-Some.ensures.steps in (
  t.0 ∙ c.loop-node.invariant.0,
  twice_passed (has c.loop-node.seen.words) _ c.loop-node.invariant.1 _ _ t.1.0 (t.1.1 ∙ c.loop-node.invariant.0) c.if-node-eq0.true _
      (sym c.contains.ensures ∙ c.if-contains.false) c.insert-seen.ensures,
)

pub loop-node-preserved : goal.loop-node-preserved
loop-node-preserved c = let t = c.in-Some.ensures.steps in (
  t.0 ∙ c.loop-node.invariant.0,
  at_inner (twice_with (has c.loop-node.seen.words)) _ c.loop-node.invariant.1 _ _ t.1.0 (t.1.1 ∙ c.loop-node.invariant.0) c.if-node-eq0.false,
)

pub returns : goal.returns
returns c = twice_none (has c.loop-node.seen.words) _ c.loop-node.invariant.1 (omega (arith, c.loop-node.invariant.0, c.in-None.ensures.steps.1.0))
