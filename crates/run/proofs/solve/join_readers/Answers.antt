-- The row of x has the rules that read it at a kept position.
use Prim.Native.Nat.{◌*◌}
use Rattle.tables.specs.Tabled.{row_words}
use native.Mathlib.Omega.{arith}
use Rattle.words.specs.Bit.{has}
use mathlib.Core.Path.{◌∙◌}
use Rattle.run.proofs.SolveLaws.{joined_row, rest_row}
use Rattle.run.proofs.solve.join_readers.Goals as goal

pub returns-then-readers-start : goal.returns-then-readers-start
returns-then-readers-start c = record { waiting_len_2 = c.join_rest.ensures.waiting_len_2; by_index = rest_row c.args.readers.now c.args.x (c.args.x * row_words) _ (has c.args.waiting.now) (omega arith) c.join_rest.ensures.by_index }

pub returns : goal.returns
returns c = record { waiting_len_2 = c.join_bits.ensures.words_len_unchanged ∙ c.requires.waiting_len; by_index = joined_row c.args.readers.now c.args.x (c.args.x * row_words) _ (has c.args.waiting.now) (omega arith) c.join_bits.ensures.by_index }
