-- The rows of 16 variables reach where the file has no more.
use Prim.Native.Nat.{◌*◌}
use mathlib.Core.Path.{refl}
use Rattle.words.proofs.Bits.{none_in}
use Rattle.tables.specs.Tabled.{row_words, narrow_variables}
use Rattle.settling.proofs.SettleLaws.{rows_in}
use Rattle.settling.proofs.settle_few.Goals as goal

pub settle_with-requires : goal.settle_with-requires
settle_with-requires c = record { accepted_as = c.requires.accepted_as; some_way = c.requires.some_way; model_len = c.requires.model_len; variables_in_bounds = rows_in narrow_variables c.requires.variables_le_narrow_variables refl; by_index = none_in (narrow_variables * row_words) }
