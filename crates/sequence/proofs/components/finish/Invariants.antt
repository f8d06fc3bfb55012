use Prim.Native.Nat.{◌≤◌}
use mathlib.Core.Path.{◌≡◌}
use lib.ListN.{length}
use Rattle.format.specs.Limits.{max_variables}
use Rattle.words.specs.Bit.{word_count}
use Rattle.sequence.proofs.components.finish.Given as goal

abbrev pub invariant-loop-v : goal.invariant-loop-v
invariant-loop-v l = (length l.list ≡ max_variables) × (length l.fresh ≡ word_count) × (length l.way ≡ max_variables) × (l.done ≤ max_variables) × (l.v ≤ l.n)
