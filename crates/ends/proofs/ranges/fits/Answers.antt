-- The tests of the definition, each on the machine's numbers.
use borrow.Author.Rules.{rules}
use Rattle.lent.specs.Ranges.{fits}
use Rattle.ends.proofs.ranges.fits.Goals as goal

pub returns : goal.returns
unfolding fits
returns c = search rules
