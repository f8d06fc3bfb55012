-- Invariant: the rules of the inner nodes before the rest of the bytes are counted.
use mathlib.Core.Path.{◌≡◌}
use lib.ListN.{drop}
use Rattle.std.specs.Slice.Iter.{chunks_exact_rest, chunks_exact_size}
use Rattle.nodes.proofs.SizeLaws.{Sized}
use Rattle.nodes.proofs.size_from.Given as goal

abbrev pub invariant-loop-node : goal.invariant-loop-node
invariant-loop-node l = (chunks_exact_size l.node-iterator ≡ 2) × Sized (drop l.from l.s) (chunks_exact_rest l.node-iterator) l.n
