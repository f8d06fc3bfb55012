use mathlib.Core.Path.{refl, subst}
use native.Mathlib.Omega.{arith}
use lib.ListN.{drop}
use Rattle.trees.specs.Tree.{max_levels, tree_in}
use Rattle.descent.specs.Ends.{Ends}
use Rattle.treechecks.proofs.TreeValues.{empty_shapes, no_tree_is, ended_shapes}
use Rattle.treechecks.proofs.is_well_formed.Goals as goal

pub returns-then-value-eq0 : goal.returns-then-value-eq0
returns-then-value-eq0 c = empty_shapes _ (omega arith)

pub returns-in_default : goal.returns-in_default
returns-in_default c = no_tree_is _ (omega arith) (subst (Ends (tree_in max_levels (drop 1 c.args.value.now)) _ 1) c.in_default.is c.node.ensures)

pub returns : goal.returns
returns c = ended_shapes _ (omega arith) _ (subst (Ends (tree_in max_levels (drop 1 c.args.value.now)) _ 1) c.in-Some.is c.node.ensures) _ refl
