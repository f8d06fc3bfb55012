use native.Mathlib.Omega.{arith}
use Rattle.nodes.proofs.SizeLaws.{tree_long, leaf_size, inner_size}
use Rattle.nodes.proofs.size.Goals as goal

pub size_from-below-requires : goal.size_from-below-requires
size_from-below-requires c = (tree_long c.requires.0, c.requires.1)

pub bounds-s-0 : goal.bounds-s-0
bounds-s-0 c = omega (arith, tree_long c.requires.0)

pub returns-then-s-eq0 : goal.returns-then-s-eq0
returns-then-s-eq0 c = leaf_size _ c.args.s.now (tree_long c.requires.0) c.size_from-below.ensures.0 c.if-s-eq0.true

pub bounds-s-1 : goal.bounds-s-1
bounds-s-1 c = omega (arith, tree_long c.requires.0)

pub overflow_cast-result : goal.overflow_cast-result
overflow_cast-result c = omega (arith, c.type_inv.s 1)

pub overflow_mul-result : goal.overflow_mul-result
overflow_mul-result c = omega (arith, c.type_inv.s 1)

pub overflow_add-result-2 : goal.overflow_add-result-2
overflow_add-result-2 c = omega (arith, c.type_inv.s 1)

pub overflow_add-result-3 : goal.overflow_add-result-3
overflow_add-result-3 c = omega (arith, c.type_inv.s 1)

pub returns : goal.returns
returns c = inner_size _ c.args.s.now (tree_long c.requires.0) c.size_from-below.ensures.0 c.if-s-eq0.false
