use Prim.Native.Nat.{ℕ, ◌+◌, ◌*◌}
use mathlib.Core.Path.{ap}
use Rattle.nesting.proofs.more.Goals as goal

pub returns : goal.returns
returns c = ap
    (λ (n : ℕ). record { variables = c.args.totals.variables + c.args.added; rules = c.args.totals.rules + (1 + c.args.added); bytes = c.args.totals.bytes + 8 * c.args.added + n }) c.size.ensures
