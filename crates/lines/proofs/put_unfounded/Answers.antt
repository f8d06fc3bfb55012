-- The first line, then the lines of the entries.
use native.Mathlib.Omega.{arith}
use Rattle.entries.specs.Text.{answer_line}
use Rattle.text.proofs.OutputLaws.{appends_both}
use Rattle.lines.proofs.put_unfounded.Goals as goal

pub returns : goal.returns
unfolding answer_line
returns c = record { appends = appends_both c.put_two-next.ensures.appends c.put_entries.ensures.appends; upper_bound = omega (arith, c.put_two-next.ensures.upper_bound, c.put_entries.ensures.upper_bound) }
