-- Invariant: the bytes of the word below the index are written.
use mathlib.Core.Path.{◌≡◌}
use Prim.Native.Nat.{◌+◌}
use lib.ListN.{take}
use Rattle.text.specs.Output.{Appends}
use Rattle.text.proofs.put_word.Given as goal

abbrev pub invariant-loop-byte : goal.invariant-loop-byte
invariant-loop-byte l = (l.next ≡ l.at + l.byte-index) × Appends (take l.byte-index l.word) l.at l.next l.initial.output l.output
