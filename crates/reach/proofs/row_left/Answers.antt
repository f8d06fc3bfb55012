-- Word by word, a bit is in both.
use Rattle.reach.proofs.ClosingLaws.{row_met}
use Rattle.reach.proofs.row_left.Goals as goal

pub returns : goal.returns
returns c = row_met c.args.rows.now c.args.left.now c.args.x c.requires.x_lt_max_variables.1
