-- One pass after the other, so many at most.
use Rattle.targets.proofs.LiftLaws.{some_aims}
use Rattle.targets.proofs.lifting.lift_all.Goals as goal

pub loop-init : goal.loop-init
loop-init c = (c.requires.aims_len.0, λ P R θ A₀ k. k)

pub pass-requires : goal.pass-requires
pass-requires c = record { accepted_as = c.requires.accepted_as; some_aims = some_aims c.requires.some_aims _ c.loop.invariant.1; aims_len = (c.loop.invariant.0, c.requires.aims_len.1) }

pub returns-then-not-pass : goal.returns-then-not-pass
returns-then-not-pass c = record { aims_len_2 = c.pass.ensures.aims_len_2; aims_kept = λ P R θ A₀ k. c.pass.ensures.aims_kept P R θ A₀ (c.loop.invariant.1 P R θ A₀ k) }

pub loop-preserved : goal.loop-preserved
loop-preserved c = (c.pass.ensures.aims_len_2, λ P R θ A₀ k. c.pass.ensures.aims_kept P R θ A₀ (c.loop.invariant.1 P R θ A₀ k))

pub returns : goal.returns
returns c = record { aims_len_2 = c.loop.invariant.0; aims_kept = c.loop.invariant.1 }
