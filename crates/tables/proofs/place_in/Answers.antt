-- Past the end there is 0.
use mathlib.Core.Path.{sym}
use native.Mathlib.Omega.{arith}
use lib.ListN.{get_or-eq_default}
use Rattle.tables.proofs.place_in.Goals as goal

pub returns : goal.returns
returns c = sym (get_or-eq_default c.args.offsets.now 0 {n = c.args.i} (omega arith))
