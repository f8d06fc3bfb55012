use Prim.Native.Nat.{◌≤◌}
use mathlib.Core.Path.{◌≡◌}
use lib.ListN.{length}
use Rattle.format.specs.Limits.{max_variables}
use Rattle.program.specs.Evaluable.{Small}
use Rattle.guess.proofs.targets.lower.Given as goal

abbrev pub invariant-loop-pass : goal.invariant-loop-pass
invariant-loop-pass l = (length l.target ≡ max_variables) × Small l.target × (l.pass ≤ 4)
