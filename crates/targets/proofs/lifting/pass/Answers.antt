-- One rule of the line after the other.
use native.Mathlib.Omega.{arith}
use Rattle.targets.proofs.LiftLaws.{some_aims}
use Rattle.targets.proofs.lifting.pass.Goals as goal

pub loop-k-init : goal.loop-k-init
loop-k-init c = (omega arith, c.requires.aims_len.0, λ P R θ A₀ k. k)

pub lift-lifted-requires : goal.lift-lifted-requires
lift-lifted-requires c = record { accepted_as = c.requires.accepted_as; some_aims = some_aims c.requires.some_aims _ c.loop-k.invariant.2; aims_len = c.loop-k.invariant.1 }

pub loop-k-preserved : goal.loop-k-preserved
loop-k-preserved c = (omega arith, c.lift-lifted.ensures.aims_len_2, λ P R θ A₀ k. c.lift-lifted.ensures.aims_kept P R θ A₀ (c.loop-k.invariant.2 P R θ A₀ k))

pub returns : goal.returns
returns c = record { aims_len_2 = c.loop-k.invariant.1; aims_kept = c.loop-k.invariant.2 }
