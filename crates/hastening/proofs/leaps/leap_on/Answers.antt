-- The leap to the furthest targets, and else a shorter one.
use Rattle.reader.proofs.Published.{limited}
use Rattle.hastening.proofs.KeptLaws.{kept_then, kept_some, some_small}
use Rattle.hastening.proofs.leaps.leap_on.Goals as goal

pub open-requires : goal.open-requires
open-requires c = ((limited c.requires.accepted_as).inside, c.requires.target_len.0, c.requires.target_len.1)

pub leap_to-leapt-requires : goal.leap_to-leapt-requires
leap_to-leapt-requires c = record { accepted_as = c.requires.accepted_as; some_run = c.requires.some_run; model_len = c.requires.model_len; target_len = c.«open».ensures }

pub highest-requires : goal.highest-requires
highest-requires c = ((some_small (kept_some c.leap_to-leapt.ensures.run_kept c.requires.some_run)).0, c.leap_to-leapt.ensures.target_len_2.1)

pub leap_less-requires : goal.leap_less-requires
leap_less-requires c = record { accepted_as = c.requires.accepted_as; some_run = kept_some c.leap_to-leapt.ensures.run_kept c.requires.some_run; model_len = (c.leap_to-leapt.ensures.model_len_2.0, c.leap_to-leapt.ensures.model_len_2.1, c.requires.model_len.2); target_len = c.leap_to-leapt.ensures.target_len_2 }

pub returns : goal.returns
returns c = record { model_len_2 = c.leap_less.ensures.model_len_2; run_kept = kept_then c.leap_to-leapt.ensures.run_kept c.leap_less.ensures.run_kept }
