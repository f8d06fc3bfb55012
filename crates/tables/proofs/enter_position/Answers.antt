-- A kept position enters its variable, another nothing.
use mathlib.Core.Path.{◌≡◌, refl, ◌∙◌}
use native.Mathlib.Omega.{arith}
use borrow.Author.Tests.{eq-eqb, ne_eqb}
use Rattle.words.specs.Bit.{bit}
use Rattle.tables.proofs.EntryLaws.{entered_one, entered_none}
use Rattle.tables.proofs.enter_position.Goals as goal

pub returns-then-mask-j-eq1 : goal.returns-then-mask-j-eq1
unfolding bit
returns-then-mask-j-eq1 c = let e : c.wide-x.result ≡ _ = c.wide-x.ensures.0 ∙ c.variable_at.ensures in record { readers_len_unchanged = c.add_bit.ensures.words_len_unchanged; entered = entered_one _ _ _ _ _ (eq-eqb _ _ c.if-mask-j-eq1.true) (omega arith) (rw e at c.add_bit.ensures.by_index) }

pub returns-else-mask-j-eq1 : goal.returns-else-mask-j-eq1
unfolding bit
returns-else-mask-j-eq1 c = record { readers_len_unchanged = refl; entered = entered_none _ _ _ _ _ (ne_eqb _ _ c.if-mask-j-eq1.false) refl }
