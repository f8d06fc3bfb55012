-- No variable before y shares x's component, and y is the first where it does.
use native.Mathlib.Nat.{not-suc-le-zero}
use native.Mathlib.Omega.{arith}
use Rattle.sharing.proofs.Sharings.{before_more, first_found, first_itself}
use Rattle.sharing.proofs.first_sharing.Goals as goal

pub loop-y-init : goal.loop-y-init
loop-y-init c = record { none = λ z l. absurd (not-suc-le-zero l) }

pub returns-then-share : goal.returns-then-share
returns-then-share c = (omega arith, first_found c.loop-y.invariant c.share.ensures c.if-share.true)

pub loop-y-preserved : goal.loop-y-preserved
loop-y-preserved c = before_more c.loop-y.invariant c.share.ensures c.if-share.false

pub returns : goal.returns
returns c = (omega arith, first_itself c.loop-y.invariant (omega arith))
