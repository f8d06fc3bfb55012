-- The highest bit of the word is set, or nothing is.
use Rattle.ends.proofs.MaskLaws.{freed}
use Rattle.ends.proofs.masks.with_free.Goals as goal

pub returns-then-free : goal.returns-then-free
returns-then-free c = freed c.args.bits c.if-free.true
