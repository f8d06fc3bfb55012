-- Invariant: the numbers below i are in.
use mathlib.Core.Path.{◌≡◌}
use mathlib.Core.Bool.{◌||◌}
use Prim.Native.Nat.{ℕ, ◌≤◌, ◌-◌}
use lib.Dec.{ltb}
use lib.ListN.{length}
use Rattle.words.specs.Bit.{has}
use Rattle.words.proofs.fill_bits.Given as goal

abbrev pub invariant-loop-i : goal.invariant-loop-i
invariant-loop-i l = (l.i ≤ l.n) × (length l.words ≡ length l.initial.words) × ((j : ℕ) → has l.words j ≡ (ltb j l.i || has l.initial.words j))
