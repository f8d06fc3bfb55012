-- Word by word, a bit is in either.
use Rattle.words.proofs.Bits.{has_union}
use borrow.Author.Rules.{rules}
use Rattle.sets.proofs.Set.union.Goals as goal

pub returns : goal.returns
returns c = has_union c.args.self.words c.args.other.words (search rules) (search rules)
