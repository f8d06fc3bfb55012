-- One rule of the line after the other.
use Prim.Native.Nat.{◌≤◌}
use mathlib.Core.Path.{◌≡◌}
use lib.ListN.{length}
use Rattle.format.specs.Limits.{max_variables}
use Rattle.targets.specs.Aims.{AimsKeptBy}
use Rattle.targets.proofs.lifting.pass.Given as goal

abbrev pub invariant-loop-k : goal.invariant-loop-k
invariant-loop-k l = (l.k ≤ l.count) × (length l.aims ≡ max_variables)
    × AimsKeptBy l.source l.strides l.model l.initial.aims l.aims
