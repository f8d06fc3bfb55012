-- The word of i gets its bit; no other bit changes.
use Prim.Native.Nat.{◌%◌}
use native.Mathlib.Omega.{arith}
use lib.ListN.{length-set}
use Rattle.words.specs.Bit.{word_bits}
use Rattle.words.proofs.Bits.{has_insert, one_shl}
use Rattle.words.proofs.add_bit.Goals as goal

pub returns : goal.returns
returns c = record { words_len_unchanged = simp length-set; by_index = rw (one_shl (c.args.i % word_bits) (omega arith)) (has_insert c.args.words.now c.args.i c.requires) }
