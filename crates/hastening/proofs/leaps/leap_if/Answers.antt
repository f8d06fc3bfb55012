-- The leap, or nothing.
use Rattle.hastening.proofs.KeptLaws.{kept_still}
use Rattle.hastening.proofs.leaps.leap_if.Goals as goal

pub returns-then-not-solved : goal.returns-then-not-solved
returns-then-not-solved c = record { model_len_2 = (c.requires.model_len.0, c.requires.model_len.2); run_kept = kept_still }

pub leap-requires : goal.leap-requires
leap-requires c = record { accepted_as = c.requires.accepted_as; some_run = c.requires.some_run; model_len = (c.requires.model_len.0, c.requires.model_len.1); waiting_len = c.requires.model_len.2 }
