use Prim.Native.Nat.{◌≤◌}
use mathlib.Core.Path.{◌≡◌}
use lib.ListN.{length}
use Rattle.format.specs.Limits.{max_variables}
use Rattle.words.specs.Bit.{word_count}
use Rattle.sequence.proofs.components.collect.Given as goal

abbrev pub invariant-loop-x : goal.invariant-loop-x
invariant-loop-x l = (length l.list ≡ max_variables) × (length l.ends ≡ max_variables) × (length l.fresh ≡ word_count) × (l.parts.done ≤ max_variables) × (l.parts.count ≤ length l.yielded)
