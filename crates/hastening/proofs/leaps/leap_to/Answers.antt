-- The targets as they are lowered, and the leap or nothing.
use Rattle.hastening.proofs.KeptLaws.{kept_still, some_small, some_stand}
use Rattle.hastening.proofs.leaps.leap_to.Goals as goal

pub lower-solved-requires : goal.lower-solved-requires
lower-solved-requires c = let t = some_stand c.requires.some_run _ c.requires.accepted_as in
    record { rules_le_max_rules = (t.0, t.1, c.requires.model_len.2); small = some_small c.requires.some_run; target_len = (c.requires.target_len.0, c.requires.target_len.1) }

pub highest-rise-requires : goal.highest-rise-requires
highest-rise-requires c = ((some_small c.requires.some_run).0, c.lower-solved.ensures.1)

pub returns-then-rise-lt2 : goal.returns-then-rise-lt2
returns-then-rise-lt2 c = record { model_len_2 = (c.requires.model_len.0, c.requires.model_len.1); target_len_2 = c.lower-solved.ensures; run_kept = kept_still }

pub leap_if-requires : goal.leap_if-requires
leap_if-requires c = record { accepted_as = c.requires.accepted_as; some_run = c.requires.some_run; model_len = (c.requires.model_len.0, c.lower-solved.ensures.0, c.requires.model_len.1) }

pub returns-then-leap_if : goal.returns-then-leap_if
returns-then-leap_if c = record { model_len_2 = c.leap_if.ensures.model_len_2; target_len_2 = c.lower-solved.ensures; run_kept = c.leap_if.ensures.run_kept }

pub returns : goal.returns
returns c = record { model_len_2 = c.leap_if.ensures.model_len_2; target_len_2 = c.lower-solved.ensures; run_kept = c.leap_if.ensures.run_kept }
