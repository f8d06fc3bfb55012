-- Invariant: the run goes on.
use Rattle.std.proofs.lemmas.Result.{err_from_is_err_and}
use mathlib.Core.Path.{subst}
use borrow.Author.Rules.{rules}
use Rattle.hastening.specs.Kept.{RunLapped}
use Rattle.hastening.proofs.KeptLaws.{kept_still, kept_then, kept_some, kept_on, lapped_on, kept_lapped}
use Rattle.hastening.proofs.components.settle_part.Goals as goal

pub loop-init : goal.loop-init
loop-init c = (kept_still, c.requires.model_len.0, c.requires.model_len.1, c.requires.model_len.2, search rules)

pub lap-requires : goal.lap-requires
lap-requires c = record { some_run = kept_some c.loop.invariant.0 c.requires.some_run; model_len = (c.loop.invariant.1, c.loop.invariant.2); by_len = (c.loop.invariant.3, c.loop.invariant.4) }

pub returns-in_err-raised : goal.returns-in_err-raised
returns-in_err-raised c = let p = err_from_is_err_and c.from_residual.result c.from_residual.ensures.1 in rw (p.1, p.2) (record { model_len_2 = (c.lap.ensures.model_len_2.0, c.lap.ensures.model_len_2.1, c.lap.ensures.by_len_2.0); run_lapped = subst (RunLapped _ _ _ _ _ _ _ _ _ _ _) c.in_err-raised.was (kept_lapped c.loop.invariant.0 (record { after = c.lap.ensures.after_lap; nearer = c.lap.ensures.model_bound })) })

pub returns-then-not-raised : goal.returns-then-not-raised
returns-then-not-raised c = record { model_len_2 = (c.lap.ensures.model_len_2.0, c.lap.ensures.model_len_2.1, c.lap.ensures.by_len_2.0); run_lapped = kept_on (kept_then c.loop.invariant.0 (lapped_on (record { after = c.lap.ensures.after_lap; nearer = c.lap.ensures.model_bound }) c.in_ok-raised.was)) }

pub pause-pace-requires : goal.pause-pace-requires
pause-pace-requires c = record { accepted_as = c.requires.accepted_as; some_run = kept_some (kept_then c.loop.invariant.0 (lapped_on (record { after = c.lap.ensures.after_lap; nearer = c.lap.ensures.model_bound }) c.in_ok-raised.was)) c.requires.some_run; model_len = (c.lap.ensures.model_len_2.0, c.lap.ensures.model_len_2.1, c.lap.ensures.by_len_2.1) }

pub loop-preserved : goal.loop-preserved
loop-preserved c = (kept_then (kept_then c.loop.invariant.0 (lapped_on (record { after = c.lap.ensures.after_lap; nearer = c.lap.ensures.model_bound }) c.in_ok-raised.was)) c.pause-pace.ensures.run_kept, c.pause-pace.ensures.model_len_2.0, c.pause-pace.ensures.model_len_2.1, c.lap.ensures.by_len_2.0, c.pause-pace.ensures.model_len_2.2)

pub returns : goal.returns
returns c = record { model_len_2 = (c.loop.invariant.1, c.loop.invariant.2, c.loop.invariant.3); run_lapped = kept_on c.loop.invariant.0 }
