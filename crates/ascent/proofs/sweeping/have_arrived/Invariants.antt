-- Invariant: of the variables before v those that are founded have their stops.
use Rattle.program.specs.Program.{variables_at}
use Rattle.ascent.specs.Ascending.{ArrivedBelow}
use Rattle.ascent.proofs.sweeping.have_arrived.Given as goal

abbrev pub invariant-loop-v : goal.invariant-loop-v
invariant-loop-v l = ArrivedBelow (variables_at l.file l.n) l.v l.stops l.sides
