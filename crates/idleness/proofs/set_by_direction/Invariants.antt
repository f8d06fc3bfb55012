-- One position after the other: no later one names the variable of an earlier one.
use Rattle.idleness.proofs.MostLaws.{TakenTo}
use Rattle.idleness.proofs.set_by_direction.Given as goal

abbrev pub invariant-loop-i : goal.invariant-loop-i
invariant-loop-i l = TakenTo l.file l.variables l.value l.i l.values
