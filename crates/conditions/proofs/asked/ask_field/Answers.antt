-- The rule in the field asks where its head is in the set.
use mathlib.Core.Path.{ap, ◌∙◌}
use borrow.Author.Tests.{not-true, not-false}
use Rattle.words.specs.Bit.{has}
use Rattle.tables.proofs.TableLaws.{standing_here}
use Rattle.conditions.proofs.AskLaws.{head_of, into_asks, outside_asks}
use Rattle.conditions.proofs.asked.ask_field.Goals as goal

pub header-rule-requires : goal.header-rule-requires
header-rule-requires c = (standing_here c.requires c.value_at-value.ensures).headed

pub returns-then-not-contains : goal.returns-then-not-contains
returns-then-not-contains c = outside_asks _ _ _ _ (c.contains.ensures ∙ ap (has c.args.set.words) (head_of c.value_at-value.ensures c.header-rule.ensures.head_is)) (not-true _ c.if-not-contains.true-raw)

pub ask_rule-requires : goal.ask_rule-requires
ask_rule-requires c = standing_here c.requires c.value_at-value.ensures

pub returns : goal.returns
returns c = into_asks _ _ _ (c.contains.ensures ∙ ap (has c.args.set.words) (head_of c.value_at-value.ensures c.header-rule.ensures.head_is))
    (not-false _ c.if-not-contains.false-raw)
    (rw c.value_at-value.ensures at c.ask_rule.ensures)
