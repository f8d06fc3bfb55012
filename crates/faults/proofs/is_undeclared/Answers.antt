-- The machine's test is the specification's.
use mathlib.Core.Path.{ap}
use Prim.Native.Nat.{ℕ}
use lib.Dec.{leb}
use Rattle.faults.proofs.is_undeclared.Goals as goal

pub returns : goal.returns
returns c = ap (λ (n : ℕ). leb c.args.variables n) c.wide.ensures.0
