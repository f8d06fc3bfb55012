-- A leap, or nothing.
use Rattle.hastening.proofs.KeptLaws.{kept_still}
use Rattle.hastening.proofs.components.pause.Goals as goal

pub returns-then-since-wait : goal.returns-then-since-wait
returns-then-since-wait c = record { model_len_2 = c.requires.model_len; run_kept = kept_still }

pub leap_risen-far-requires : goal.leap_risen-far-requires
leap_risen-far-requires c = record { accepted_as = c.requires.accepted_as; some_run = c.requires.some_run; model_len = (c.requires.model_len.0, c.requires.model_len.1) }
