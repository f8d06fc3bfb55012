-- Invariant: the first t words have taken in those from `start` on.
use mathlib.Core.Path.{◌≡◌}
use lib.ListN.{length}
use Rattle.words.proofs.Joins.{Taken}
use Rattle.tables.specs.Tabled.{row_words}
use Rattle.run.proofs.solve.join_rest.Given as goal

abbrev pub invariant-loop-t : goal.invariant-loop-t
invariant-loop-t l = (length l.waiting ≡ row_words) × Taken l.initial.waiting l.readers l.waiting 0 l.start l.t
