-- Equal numbers are one variable; else the sets say whether each has the other.
use native.Mathlib.Omega.{arith}
use Rattle.sharing.proofs.Sharings.{share_same, share_other}
use Rattle.sharing.proofs.share.Goals as goal

pub returns-then-x-y : goal.returns-then-x-y
returns-then-x-y c = share_same _ _ _ (omega arith)

pub returns : goal.returns
returns c = share_other _ _ _ (omega arith) c.row_has-there.ensures c.row_has-back.ensures
