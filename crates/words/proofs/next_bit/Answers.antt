-- Invariant: nothing from `from` to the word's start is in the set; the word's trailing zeros lead to its least bit.
use Prim.Native.Nat.{◌-◌, ◌/◌}
use native.Mathlib.Omega.{arith}
use lib.Count.{trailing_le}
use lib.ListN.{length, get_or}
use mir.Syntax.{w64}
use mir.Val.{Fits}
use Rattle.words.specs.Bit.{word_bits, has}
use Rattle.words.proofs.Nexts.{rest_at, none_at, further, found_in_word}
use Rattle.words.proofs.next_bit.Goals as goal

pub loop-at-init : goal.loop-at-init
loop-at-init c = (omega arith, none_at (has c.args.words.now) c.args.from)

pub overflow_cast-zeros : goal.overflow_cast-zeros
overflow_cast-zeros c = omega (arith, trailing_le word_bits (rest_at c.args.words.now c.loop-at.at))

pub overflow_add-found : goal.overflow_add-found
overflow_add-found c = omega (arith, trailing_le word_bits (rest_at c.args.words.now c.loop-at.at))

pub returns-then-w-ne0 : goal.returns-then-w-ne0
returns-then-w-ne0 c = let f : Fits w64 (get_or c.args.words.now (c.loop-at.at / word_bits) 0) = c.type_inv.words (c.loop-at.at / word_bits) in
    found_in_word c.args.words.now (length c.args.words.now) c.args.from c.loop-at.at (omega arith) f.fits c.if-w-ne0.true (omega arith) c.loop-at.invariant.1

pub loop-at-preserved : goal.loop-at-preserved
loop-at-preserved c = (omega arith, further c.args.words.now c.args.from c.loop-at.at c.if-w-ne0.false c.loop-at.invariant.1)

pub returns : goal.returns
returns c = λ i x y. c.loop-at.invariant.1 i x (omega arith)
