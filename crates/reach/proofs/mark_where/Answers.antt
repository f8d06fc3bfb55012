-- The word of v gets its bit, or nothing; no other bit changes.
use lib.ListN.{length-set}
use Rattle.reach.proofs.RowLaws.{mark_where_law}
use Rattle.reach.proofs.mark_where.Goals as goal

pub returns : goal.returns
returns c = record { rows_len_2 = simp length-set c.requires.rows_len; marked_where = rw c.as_number-one.ensures (mark_where_law c.args.test c.args.rows.now c.args.i c.args.v c.requires.rows_len c.requires.i_lt_max_variables.0 c.requires.i_lt_max_variables.1) }
