use native.Mathlib.Omega.{arith}
use Rattle.noderules.proofs.Lefts.{tree_least}
use Rattle.noderules.proofs.Roots.{root_leaf, root_inner}
use Rattle.noderules.proofs.root.Goals as goal

pub bounds-s-0 : goal.bounds-s-0
bounds-s-0 c = omega (arith, tree_least c.requires.0)

pub returns-then-s-eq0 : goal.returns-then-s-eq0
returns-then-s-eq0 c = let r = root_leaf _ _ _ c.requires.0 c.requires.1 c.if-s-eq0.true in record { writable = r.0; n_value = r.1 }

pub bounds-s-0-2 : goal.bounds-s-0-2
bounds-s-0-2 c = omega (arith, tree_least c.requires.0)

pub bounds-s-1 : goal.bounds-s-1
bounds-s-1 c = omega (arith, tree_least c.requires.0)

pub overflow_cast-result : goal.overflow_cast-result
overflow_cast-result c = omega (arith, c.type_inv.s 1)

pub returns : goal.returns
returns c = let r = root_inner _ _ _ c.requires.0 c.requires.1 c.if-s-eq0.false in record { writable = r.0; n_value = r.1 }
