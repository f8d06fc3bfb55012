-- A node's children stand after its two bytes, and each child no sooner: the measures fall with the bytes that are left. Invariant: the trees before `end` are read.
use Rattle.std.proofs.Common.{◌+◌, ◌-◌, ◌*◌, length}
use Rattle.trees.specs.Tree.{tree_in}
use Rattle.descent.proofs.Reading.{Reading}
use Rattle.descent.proofs.+children_node.Given as goal

abbrev pub decreases-children : goal.decreases-children
decreases-children l = 2 * (length l.s.now - l.at) + 1

abbrev pub decreases-node : goal.decreases-node
decreases-node l = 2 * (length l.s.now - l.at)

abbrev pub invariant-children-loop : goal.invariant-children-loop
invariant-children-loop l = Reading (tree_in l.levels) l.s l.at l.n l.end l.counter
