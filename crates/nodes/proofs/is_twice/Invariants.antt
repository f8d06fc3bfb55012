-- Invariant: no variable stands at two leaves before the rest of the bytes, and those that stand there are seen.
use mathlib.Core.Path.{◌≡◌}
use mathlib.Core.Bool.{false}
use Rattle.std.specs.Slice.Iter.{chunks_exact_rest, chunks_exact_size}
use Rattle.words.specs.Bit.{has}
use Rattle.flat.specs.Flat.{leaves_in, twice_with}
use Rattle.nodes.proofs.is_twice.Given as goal

abbrev pub invariant-loop-node : goal.invariant-loop-node
invariant-loop-node l = (chunks_exact_size l.node-iterator ≡ 2)
    × (twice_with (λ x. false) (leaves_in l.s) ≡ twice_with (has l.seen.words) (leaves_in (chunks_exact_rest l.node-iterator)))
