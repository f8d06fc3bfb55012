-- The line of a refusal has its word and its two numbers.
use Rattle.entries.specs.Text.{answer_line}
use Rattle.lines.proofs.put_refusal.Goals as goal

pub returns : goal.returns
unfolding answer_line
returns c = record { appends = c.put_two.ensures.appends; upper_bound = c.put_two.ensures.upper_bound }
