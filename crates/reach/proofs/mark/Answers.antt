-- The word of v gets its bit; no other bit changes.
use Prim.Native.Nat.{◌%◌}
use native.Mathlib.Omega.{arith}
use lib.ListN.{length-set}
use Rattle.words.specs.Bit.{word_bits}
use Rattle.words.proofs.Bits.{one_shl}
use Rattle.reach.proofs.RowLaws.{mark_law}
use Rattle.reach.proofs.mark.Goals as goal

pub returns : goal.returns
returns c = record { rows_len_2 = simp length-set c.requires.rows_len; marked = rw (one_shl (c.args.v % word_bits) (omega arith)) (mark_law c.args.rows.now c.args.i c.args.v c.requires.rows_len c.requires.i_lt_max_variables.0 c.requires.i_lt_max_variables.1) }
