-- The words are four, and their numbers those below 256.
use mathlib.Core.Path.{◌≡◌}
use lib.ListN.{length}
use borrow.Author.Rules.{rules}
use Rattle.words.specs.Bit.{word_count}
use Rattle.sets.proofs.Set.next.Goals as goal

pub returns : goal.returns
returns c = let e : length c.args.self.words ≡ word_count = search rules in
    rw e at c.next_bit.ensures
