-- Each file has the readers that its variables need.
use Rattle.settling.proofs.settle.Goals as goal

pub settle_few-requires : goal.settle_few-requires
settle_few-requires c = record { accepted_as = c.requires.accepted_as; some_way = c.requires.some_way; model_len = c.requires.model_len; variables_le_narrow_variables = c.if-n-le-NARROW.true }

pub settle_middle-requires : goal.settle_middle-requires
settle_middle-requires c = record { accepted_as = c.requires.accepted_as; some_way = c.requires.some_way; model_len = c.requires.model_len; variables_le_middle_variables = c.if-n-le-MIDDLE.true }
