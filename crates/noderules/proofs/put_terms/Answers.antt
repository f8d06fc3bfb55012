use mathlib.Core.Path.{◌≡◌}
use native.Mathlib.Omega.{arith}
use Rattle.noderules.proofs.Putting.{puts}
use Rattle.noderules.proofs.Terms.{terms_begun, terms_length, tree_stands, tree_two, tree_numbered, term_room, terms_more, terms_done}
use Rattle.noderules.proofs.put_terms.Goals as goal

pub loop-i-init : goal.loop-i-init
loop-i-init c = (terms_begun _ _ _ _ _ _ c.requires.0.inside, omega arith)

pub operand-x-requires : goal.operand-x-requires
operand-x-requires c = (tree_two c.requires.0.stands c.requires.1 c.requires.0.numbered c.loop-i.invariant.0 (omega arith), tree_numbered c.requires.0.stands c.requires.1 c.requires.0.numbered c.loop-i.invariant.0 (omega arith))

pub put-end-requires : goal.put-end-requires
put-end-requires c = term_room c.requires.0.stands c.requires.1 c.requires.0.numbered c.loop-i.invariant.0 (omega arith)

pub skip-skipped-requires : goal.skip-skipped-requires
skip-skipped-requires c = (c.loop-i.invariant.0.inside, tree_stands c.requires.0.stands c.requires.1 c.requires.0.numbered c.loop-i.invariant.0 (omega arith))

pub overflow_add-next : goal.overflow_add-next
overflow_add-next c = omega (arith, tree_numbered c.requires.0.stands c.requires.1 c.requires.0.numbered c.loop-i.invariant.0 (omega arith), c.skip-skipped.ensures.counted)

pub loop-i-preserved : goal.loop-i-preserved
loop-i-preserved c = let o = puts c.put-end.ensures in
    (terms_more c.requires.0.stands c.requires.1 c.requires.0.numbered c.loop-i.invariant.0 (omega arith) c.operand-x.ensures o c.skip-skipped.ensures, omega arith)

pub shape_of-out : goal.shape_of-out
shape_of-out c = terms_length c.requires.0.stands c.requires.1 c.requires.0.numbered c.loop-i.invariant.0 c.loop-i.invariant.1

pub returns : goal.returns
returns c = let e : c.loop-i.i ≡ c.args.node.n = omega arith in
    terms_done c.args.node.form c.coefficient-number.ensures (rw e at c.loop-i.invariant.0)
