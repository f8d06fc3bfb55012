-- Invariant: nothing from `from` to the word's start is in the set; the word's trailing zeros lead to its least bit.
use Prim.Native.Nat.{◌≤◌, ◌-◌}
use Rattle.words.specs.Bit.{has, NoneIn}
use Rattle.words.proofs.next_bit.Given as goal

abbrev pub invariant-loop-at : goal.invariant-loop-at
invariant-loop-at l = (l.from ≤ l.at) × NoneIn (has l.words) l.from l.at

abbrev pub decreases-loop-at : goal.decreases-loop-at
decreases-loop-at l = l.end - l.at
