-- The leap to the level, and else by doubles.
use mathlib.Core.Path.{refl}
use Rattle.validity.proofs.ComponentLaws.{values_none}
use Rattle.reader.proofs.Published.{limited}
use Rattle.hastening.proofs.KeptLaws.{kept_then, kept_some, some_small, some_stand}
use Rattle.hastening.proofs.leaps.leap_less.Goals as goal

pub copy-requires : goal.copy-requires
copy-requires c = (refl, values_none 256)

pub level-requires : goal.level-requires
level-requires c = let t = some_stand c.requires.some_run _ c.requires.accepted_as in
    record { variables_in_bounds = ((limited c.requires.accepted_as).inside, t.0, t.1, c.requires.model_len.2); small = (some_small c.requires.some_run).1; target_len = c.requires.target_len }

pub leap_to-leapt-requires : goal.leap_to-leapt-requires
leap_to-leapt-requires c = record { accepted_as = c.requires.accepted_as; some_run = c.requires.some_run; model_len = c.requires.model_len; target_len = c.level.ensures }

pub leap_by_doubles-requires : goal.leap_by_doubles-requires
leap_by_doubles-requires c = record { accepted_as = c.requires.accepted_as; some_run = kept_some c.leap_to-leapt.ensures.run_kept c.requires.some_run; model_len = (c.leap_to-leapt.ensures.model_len_2.0, c.leap_to-leapt.ensures.model_len_2.1, c.requires.model_len.2); target_len = c.leap_to-leapt.ensures.target_len_2 }

pub returns : goal.returns
returns c = record { model_len_2 = c.leap_by_doubles.ensures.model_len_2; run_kept = kept_then c.leap_to-leapt.ensures.run_kept c.leap_by_doubles.ensures.run_kept }
