-- A node says where it ends, and its children where the last of them ends.
use Rattle.std.proofs.Common.{◌∙◌, arith, sym}
use Rattle.descent.proofs.Reading.{read_none, read_stopped, read_more, read_all}
use Rattle.descent.proofs.NodeEnds.{too_short_is, leaf_ends, not_node, inner_ends}
use Rattle.descent.proofs.+children_node.Goals as goal

pub children-loop-init : goal.children-loop-init
children-loop-init t c = read_none _ _ _ _ c.requires

pub children-returns-in_default : goal.children-returns-in_default
children-returns-in_default t c = read_stopped _ _ _ _ _ _ c.loop.invariant c.node.result (omega arith) c.node.ensures c.in_default.is

pub children-loop-preserved : goal.children-loop-preserved
children-loop-preserved t c = read_more _ _ _ _ _ _ c.loop.invariant c.node.result (omega arith) c.node.ensures _ c.in-Some.is

pub children-returns : goal.children-returns
children-returns t c = read_all _ _ _ _ _ _ c.loop.invariant (omega arith)

pub node-returns-then-s-at-lt2 : goal.node-returns-then-s-at-lt2
node-returns-then-s-at-lt2 t c = too_short_is c.args.s.now c.args.at c.args.levels c.if-s-at-lt2.true

pub node-returns-then-form-eq0 : goal.node-returns-then-form-eq0
node-returns-then-form-eq0 t c = leaf_ends _ _ (omega arith) _ c.if-levels-eq0.false c.if-form-eq0.true

pub node-returns-then-not-is_inner : goal.node-returns-then-not-is_inner
node-returns-then-not-is_inner t c =
    not_node c.args.s.now c.args.at (omega arith) c.args.levels c.if-form-eq0.false (sym c.is_inner.ensures ∙ c.if-not-is_inner.true)

pub node-returns : goal.node-returns
node-returns t c =
    inner_ends c.args.s.now c.args.at (omega arith) c.args.levels c.children.result c.if-levels-eq0.false c.if-form-eq0.false
    (sym c.is_inner.ensures ∙ c.if-not-is_inner.false) c.children.ensures
