-- The word of v gets its bit; no other bit changes.
use mathlib.Core.Path.{◌≡◌}
use Prim.Native.Nat.{◌<◌, ◌/◌, ◌%◌}
use lib.ListN.{length}
use native.Mathlib.Omega.{arith}
use Rattle.words.specs.Bit.{word_bits, word_count}
use Rattle.words.proofs.Bits.{has_insert, one_shl}
use borrow.Author.Rules.{rules}
use Rattle.sets.proofs.Set.insert.Goals as goal

pub returns : goal.returns
returns c = let l : length c.args.self.words ≡ word_count = search rules in
    let h : c.args.v / word_bits < length c.args.self.words = omega arith in
    let b : c.args.v % word_bits < word_bits = omega arith in
    rw (one_shl (c.args.v % word_bits) b) (has_insert c.args.self.words c.args.v h)
