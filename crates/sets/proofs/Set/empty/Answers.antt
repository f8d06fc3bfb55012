-- Words of 0 have no bit.
use Rattle.words.specs.Bit.{word_count}
use Rattle.words.proofs.Bits.{none_in}
use Rattle.sets.proofs.Set.empty.Goals as goal

pub returns : goal.returns
returns c = none_in word_count
