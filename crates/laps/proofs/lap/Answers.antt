-- Invariant: the run goes on.
use Rattle.std.proofs.lemmas.Result.{err_from_is_err_and}
use native.Mathlib.Omega.{arith}
use Rattle.laps.proofs.LapLaws.{went_on}
use Rattle.laps.proofs.lap.Goals as goal

pub loop-k-init : goal.loop-k-init
loop-k-init c = (λ P R θ k. k, c.requires.model_len.0, c.requires.model_len.1, c.requires.by_len.0, c.requires.by_len.1, omega arith)

pub attempt-requires : goal.attempt-requires
attempt-requires c = record { some_run = record { program = c.requires.some_run.program; reckoning = c.requires.some_run.reckoning; assigned = c.requires.some_run.assigned; run = c.loop-k.invariant.0 _ _ _ c.requires.some_run.run }; i_lt_max_rules = (c.rule_at-i.ensures, c.loop-k.invariant.1, c.loop-k.invariant.2) }

pub returns-in_err-tried : goal.returns-in_err-tried
returns-in_err-tried c = let p = err_from_is_err_and c.from_residual.result c.from_residual.ensures.1 in rw p.1 (record { model_len_2 = c.attempt.ensures.model_len; by_len_2 = (c.loop-k.invariant.3, c.loop-k.invariant.4); model_bound = omega (arith, c.attempt.ensures.model_bound, c.loop-k.invariant.5); after_lap = λ P R θ k. rw c.in_err-tried.was at (c.attempt.ensures.after_try P R θ (c.loop-k.invariant.0 P R θ k)) })

pub loop-k-preserved : goal.loop-k-preserved
loop-k-preserved c = (
  λ P R θ k. went_on _ _ c.in_ok-tried.was (c.attempt.ensures.after_try P R θ (c.loop-k.invariant.0 P R θ k)),
  c.attempt.ensures.model_len.0,
  c.attempt.ensures.model_len.1,
  c.note-rose.ensures.0,
  c.note-rose.ensures.1,
  omega (arith, c.attempt.ensures.model_bound, c.loop-k.invariant.5),
)

pub returns : goal.returns
returns c = record { model_len_2 = (c.loop-k.invariant.1, c.loop-k.invariant.2); by_len_2 = (c.loop-k.invariant.3, c.loop-k.invariant.4); model_bound = c.loop-k.invariant.5; after_lap = λ P R θ k. c.loop-k.invariant.0 P R θ k }
