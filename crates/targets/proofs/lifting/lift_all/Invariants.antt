-- One pass after the other, so many at most.
use mathlib.Core.Path.{◌≡◌}
use lib.ListN.{length}
use Rattle.format.specs.Limits.{max_variables}
use Rattle.targets.specs.Aims.{AimsKeptBy}
use Rattle.targets.proofs.lifting.lift_all.Given as goal

abbrev pub invariant-loop : goal.invariant-loop
invariant-loop l = (length l.aims ≡ max_variables)
    × AimsKeptBy l.source l.strides l.model l.initial.aims l.aims
