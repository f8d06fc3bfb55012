-- Invariant: the run goes on.
use Rattle.std.proofs.lemmas.Result.{err_from_is_err_and}
use mathlib.Core.Path.{subst}
use native.Mathlib.Omega.{arith}
use borrow.Author.Rules.{rules}
use Rattle.hastening.specs.Kept.{RunLapped}
use Rattle.hastening.proofs.KeptLaws.{kept_still, kept_then, kept_some, kept_on, lapped_on, kept_lapped}
use Rattle.hastening.proofs.components.hasten.Goals as goal

pub loop-p-init : goal.loop-p-init
loop-p-init c = (kept_still, c.requires.model_len.0, c.requires.model_len.1, search rules, omega arith)

pub settle_part-requires : goal.settle_part-requires
settle_part-requires c = record { accepted_as = c.requires.accepted_as; some_run = kept_some c.loop-p.invariant.0 c.requires.some_run; model_len = (c.loop-p.invariant.1, c.loop-p.invariant.2, c.loop-p.invariant.3) }

pub returns-in_err-settle_part : goal.returns-in_err-settle_part
returns-in_err-settle_part c = let p = err_from_is_err_and c.from_residual.result c.from_residual.ensures.1 in rw (p.1, p.2) (record { model_len_2 = (c.settle_part.ensures.model_len_2.0, c.settle_part.ensures.model_len_2.1); run_lapped = subst (RunLapped _ _ _ _ _ _ _ _ _ _ _) c.in_err-settle_part.was (kept_lapped c.loop-p.invariant.0 c.settle_part.ensures.run_lapped) })

pub loop-p-preserved : goal.loop-p-preserved
loop-p-preserved c = (kept_then c.loop-p.invariant.0 (lapped_on c.settle_part.ensures.run_lapped c.in_ok-settle_part.was), c.settle_part.ensures.model_len_2.0, c.settle_part.ensures.model_len_2.1, c.settle_part.ensures.model_len_2.2, omega arith)

pub returns : goal.returns
returns c = record { model_len_2 = (c.loop-p.invariant.1, c.loop-p.invariant.2); run_lapped = kept_on c.loop-p.invariant.0 }
