-- The value of the field is the rule's, and its mask and readers are those that the callees enter.
use Rattle.tables.proofs.TableLaws.{standing_here, few_here, entry_made}
use Rattle.tables.proofs.enter.Goals as goal

pub kept_positions-mask-requires : goal.kept_positions-mask-requires
kept_positions-mask-requires c = record { standing = standing_here c.requires.rule_here c.value_at.ensures; value_len_bound = few_here c.requires.rule_here c.value_at.ensures }

pub returns : goal.returns
returns c = entry_made c.requires.rule_here c.value_at.ensures _ _ _ _ _ c.narrow.ensures c.next_at.ensures c.kept_positions-mask.ensures
