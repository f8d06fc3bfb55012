-- Invariant: the run goes on, and the targets are numbers of the format's range.
use Rattle.hastening.proofs.KeptLaws.{kept_still, kept_then, kept_some}
use Rattle.hastening.proofs.leaps.leap_by_doubles.Goals as goal

pub loop-init : goal.loop-init
loop-init c = (kept_still, c.requires.model_len.0, c.requires.model_len.1, c.requires.target_len.0, c.requires.target_len.1)

pub leap_by-leapt-requires : goal.leap_by-leapt-requires
leap_by-leapt-requires c = record { accepted_as = c.requires.accepted_as; some_run = kept_some c.loop.invariant.0 c.requires.some_run; model_len = (c.loop.invariant.1, c.loop.invariant.2, c.requires.model_len.2); target_len = (c.loop.invariant.3, c.loop.invariant.4) }

pub returns-then-leapt-eq0 : goal.returns-then-leapt-eq0
returns-then-leapt-eq0 c = record { model_len_2 = c.leap_by-leapt.ensures.model_len_2; run_kept = kept_then c.loop.invariant.0 c.leap_by-leapt.ensures.run_kept }

pub loop-preserved : goal.loop-preserved
loop-preserved c = (kept_then c.loop.invariant.0 c.leap_by-leapt.ensures.run_kept, c.leap_by-leapt.ensures.model_len_2.0, c.leap_by-leapt.ensures.model_len_2.1, c.leap_by-leapt.ensures.target_len_2.0, c.leap_by-leapt.ensures.target_len_2.1)

pub returns : goal.returns
returns c = record { model_len_2 = (c.loop.invariant.1, c.loop.invariant.2); run_kept = c.loop.invariant.0 }
