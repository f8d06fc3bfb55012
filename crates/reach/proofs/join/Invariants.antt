-- Invariant: the first words of row i have taken in those of row k, and no other row has changed.
use Prim.Native.Nat.{◌≤◌, ◌-◌}
use Rattle.words.specs.Bit.{word_count}
use Rattle.reach.proofs.RowLaws.{RowTaken}
use Rattle.reach.proofs.join.Given as goal

abbrev pub invariant-loop-t : goal.invariant-loop-t
invariant-loop-t l = (l.t ≤ word_count) × RowTaken l.initial.rows l.rows l.i l.k l.t
