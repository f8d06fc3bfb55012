-- The first targets drawn in.
use Rattle.reader.proofs.Published.{limited}
use Rattle.hastening.proofs.KeptLaws.{kept_still, some_small}
use Rattle.hastening.proofs.leaps.leap_by.Goals as goal

pub highest-requires : goal.highest-requires
highest-requires c = ((some_small c.requires.some_run).0, c.copy.ensures.1)

pub returns-then-highest-steps : goal.returns-then-highest-steps
returns-then-highest-steps c = record { model_len_2 = (c.requires.model_len.0, c.requires.model_len.1); target_len_2 = c.copy.ensures; run_kept = kept_still }

pub draw_in-requires : goal.draw_in-requires
draw_in-requires c = record { variables_in_bounds = ((limited c.requires.accepted_as).inside, (some_small c.requires.some_run).0); target_len = c.copy.ensures }

pub leap_to-requires : goal.leap_to-requires
leap_to-requires c = record { accepted_as = c.requires.accepted_as; some_run = c.requires.some_run; model_len = c.requires.model_len; target_len = c.draw_in.ensures }
