-- The value of the field is the rule's, and its place and mask are entered.
use Rattle.tables.proofs.TableLaws.{standing_here, few_here}
use Rattle.ends.proofs.MaskLaws.{entry_made}
use Rattle.ends.proofs.masks.enter.Goals as goal

pub mask_of-mask-requires : goal.mask_of-mask-requires
mask_of-mask-requires c = record { standing = standing_here c.requires.rule_here c.value_at.ensures; value_len_bound = few_here c.requires.rule_here c.value_at.ensures }

pub returns : goal.returns
returns c = entry_made _ _ _ _ _ _ _ c.value_at.ensures c.narrow.ensures c.next_at.ensures c.mask_of-mask.ensures
