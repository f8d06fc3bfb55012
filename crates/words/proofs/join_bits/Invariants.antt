-- Invariant: the words below t have taken in the other's.
use Rattle.words.proofs.Joins.{Taken}
use Rattle.words.proofs.join_bits.Given as goal

abbrev pub invariant-loop-t : goal.invariant-loop-t
invariant-loop-t l = Taken l.initial.words l.others l.words 0 0 l.t
