-- The word has the bit, so taking its power off clears it and no other.
use mathlib.Core.Path.{refl, sym, ◌∙◌}
use Prim.Native.Nat.{◌%◌}
use native.Mathlib.Omega.{arith}
use lib.ListN.{length-set}
use Rattle.words.specs.Bit.{word_bits}
use Rattle.words.proofs.Bits.{one_shl, has_least, has_drop, drop_none}
use Rattle.words.proofs.drop_bit.Goals as goal

pub overflow_sub-words : goal.overflow_sub-words
overflow_sub-words c = let e = has_least c.args.words.now c.args.i (sym c.has_bit.ensures ∙ c.if-has_bit.true) in
    omega (arith, one_shl (c.args.i % word_bits) (omega arith))

pub returns-then-has_bit : goal.returns-then-has_bit
returns-then-has_bit c = record {
  words_len_unchanged = simp length-set;
  by_index = rw (one_shl (c.args.i % word_bits) (omega arith))
      (has_drop c.args.words.now c.args.i c.requires (sym c.has_bit.ensures ∙ c.if-has_bit.true));
}

pub returns-else-has_bit : goal.returns-else-has_bit
returns-else-has_bit c = record { words_len_unchanged = refl; by_index = drop_none c.args.words.now c.args.i (sym c.has_bit.ensures ∙ c.if-has_bit.false) }
