-- The rows of all variables that a file can have reach.
use mathlib.Core.Path.{refl}
use Rattle.format.specs.Limits.{max_variables}
use Rattle.words.proofs.Bits.{none_in}
use Rattle.reader.proofs.Published.{limited}
use Rattle.tables.specs.Tabled.{readers_words}
use Rattle.settling.proofs.SettleLaws.{rows_in}
use Rattle.settling.proofs.settle_most.Goals as goal

pub settle_with-requires : goal.settle_with-requires
settle_with-requires c = record { accepted_as = c.requires.accepted_as; some_way = c.requires.some_way; model_len = c.requires.model_len; variables_in_bounds = rows_in max_variables (limited c.requires.accepted_as).few_variables refl; by_index = none_in (readers_words) }
