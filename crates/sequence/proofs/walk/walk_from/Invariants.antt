use Prim.Native.Nat.{◌≤◌}
use mathlib.Core.Path.{◌≡◌}
use lib.ListN.{length}
use Rattle.format.specs.Limits.{max_variables}
use Rattle.words.specs.Bit.{word_count}
use Rattle.sequence.proofs.walk.walk_from.Given as goal

abbrev pub invariant-loop : goal.invariant-loop
invariant-loop l = (length l.fresh ≡ word_count) × (length l.way ≡ max_variables) × (length l.list ≡ max_variables) × (l.walk.depth ≤ max_variables) × (l.walk.done ≤ max_variables)
