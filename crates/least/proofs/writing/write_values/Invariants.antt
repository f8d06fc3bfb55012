-- Invariant: the first i values are written, and all bytes after them are as they were.
use mathlib.Core.Path.{◌≡◌}
use Prim.Native.Nat.{◌*◌}
use mathlib.Core.List.{◌++◌}
use lib.ListN.{length, drop}
use Rattle.meaning.specs.LeastCall.{written}
use Rattle.program.specs.Readings.{valued}
use Rattle.least.proofs.writing.write_values.Given as goal

abbrev pub invariant-loop-v : goal.invariant-loop-v
invariant-loop-v l = (length l.buffer ≡ length l.initial.buffer) × (l.buffer ≡ written (valued l.values) l.v ++ drop (2 * l.v) l.initial.buffer)
