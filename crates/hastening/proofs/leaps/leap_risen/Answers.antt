-- The line of the risen variables, with their strides, and targets for them.
use mathlib.Core.Path.{refl}
use Rattle.validity.proofs.ComponentLaws.{values_none}
use Rattle.hastening.proofs.KeptLaws.{some_stand}
use Rattle.hastening.proofs.leaps.leap_risen.Goals as goal

pub lengthen-requires : goal.lengthen-requires
lengthen-requires c = let t = some_stand c.requires.some_run _ c.requires.accepted_as in
    record { rules_le_max_rules = (t.0, t.1, c.gather-count.ensures.2); strides_len = (refl, values_none 256) }

pub leap_on-requires : goal.leap_on-requires
leap_on-requires c = record { accepted_as = c.requires.accepted_as; some_run = c.requires.some_run; model_len = (c.requires.model_len.0, c.requires.model_len.1, c.gather-count.ensures.2); target_len = (refl, values_none 256) }
