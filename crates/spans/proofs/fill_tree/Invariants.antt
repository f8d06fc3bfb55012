-- Invariant: the inner nodes from node i on are entered.
use Prim.Native.Nat.{◌*◌}
use Rattle.spans.proofs.FilledTrees.{Filling}
use Rattle.spans.proofs.fill_tree.Given as goal

abbrev pub invariant-loop-i : goal.invariant-loop-i
invariant-loop-i l = Filling l.s l.next l.kind l.initial.lows l.initial.highs l.initial.records l.lows l.highs l.records (2 * l.i) l.number
