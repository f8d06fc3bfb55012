-- The parts are appended one after the other.
use native.Mathlib.Omega.{arith}
use Rattle.text.proofs.OutputLaws.{appends_both}
use Rattle.lines.proofs.put_one.Goals as goal

pub returns : goal.returns
returns c = record { appends = appends_both (appends_both c.put_word-next.ensures c.put_decimal-next.ensures.appends) c.put.ensures; upper_bound = omega (arith, c.put_word-next.ensures.next, c.put_decimal-next.ensures.upper_bound, c.put.ensures.next, c.requires) }
