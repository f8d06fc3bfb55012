-- By cases on whether x is wanted.
use mathlib.Core.Path.{◌∙◌}
use Rattle.conditions.proofs.MemberLaws.{with_one, with_none}
use Rattle.conditions.proofs.members.add_if.Goals as goal

pub returns-then-wanted : goal.returns-then-wanted
returns-then-wanted c = record { words_len = c.add_bit.ensures.words_len_unchanged ∙ c.requires.1; by_index = with_one _ _ c.if-wanted.true c.add_bit.ensures.by_index }

pub returns-else-wanted : goal.returns-else-wanted
returns-else-wanted c = record { words_len = c.requires.1; by_index = with_none _ _ c.if-wanted.false }
