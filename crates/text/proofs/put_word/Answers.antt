-- The bytes of the word below the index are written, and each turn writes the next.
use native.Mathlib.Omega.{arith}
use Rattle.text.proofs.OutputLaws.{appends_none, word_more, word_end}
use Rattle.text.proofs.put_word.Goals as goal

pub loop-byte-init : goal.loop-byte-init
loop-byte-init c = (omega arith, appends_none _ _)

pub loop-byte-preserved : goal.loop-byte-preserved
loop-byte-preserved c = (
  omega (arith, c.put-next.ensures.next),
  word_more c.args.word.now c.loop-byte.byte-index (omega arith) c.loop-byte.invariant.1 c.put-next.ensures,
)

pub returns : goal.returns
returns c = word_end _ c.loop-byte.byte-index (omega arith) c.loop-byte.invariant.1
