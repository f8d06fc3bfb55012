-- Invariant: the faults of the terms before i are noted.
use Rattle.program.specs.Program.{terms_of, variables_at}
use Rattle.faults.specs.Faults.{FaultsBelow}
use Rattle.faults.proofs.body_faults.Given as goal

abbrev pub invariant-loop-i : goal.invariant-loop-i
invariant-loop-i l = FaultsBelow (variables_at l.file l.variables) l.form (terms_of l.body) l.i l.all
