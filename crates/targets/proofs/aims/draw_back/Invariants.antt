-- One variable after the other, each with its first aim.
use mathlib.Core.Path.{◌≡◌}
use Prim.Native.Nat.{◌≤◌}
use lib.ListN.{length}
use Rattle.format.specs.Limits.{max_variables}
use Rattle.program.specs.Program.{variables_at}
use Rattle.reduct.specs.Filling.{Filled}
use Rattle.targets.specs.Aims.{first_aims}
use Rattle.targets.proofs.aims.draw_back.Given as goal

abbrev pub invariant-loop-v : goal.invariant-loop-v
invariant-loop-v l = (l.v ≤ l.source.counts.variables) × (length l.aims ≡ max_variables) × Filled (first_aims (variables_at l.source.file.now l.source.counts.variables) l.source.cut l.strides l.source.stops.now l.model l.target) l.v l.initial.aims l.aims
