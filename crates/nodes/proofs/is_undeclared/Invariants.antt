-- Invariant: no leaf before the rest of the bytes is undeclared.
use mathlib.Core.Path.{◌≡◌}
use lib.Dec.{leb}
use Rattle.std.specs.Slice.Iter.{chunks_exact_rest, chunks_exact_size}
use Rattle.flat.specs.Flat.{leaves_in, any_in}
use Rattle.nodes.proofs.is_undeclared.Given as goal

abbrev pub invariant-loop-node : goal.invariant-loop-node
invariant-loop-node l = (chunks_exact_size l.node-iterator ≡ 2)
    × (any_in (leb l.n) (leaves_in l.s) ≡ any_in (leb l.n) (leaves_in (chunks_exact_rest l.node-iterator)))
