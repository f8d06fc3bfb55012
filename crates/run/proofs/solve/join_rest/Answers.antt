-- Invariant: the first t words have taken in those from `start` on.
use mathlib.Core.Path.{refl, sym, ◌∙◌}
use native.Mathlib.Nat.{zero-add}
use native.Mathlib.Omega.{arith}
use Rattle.words.proofs.Joins.{taken_none, taken_more}
use Rattle.run.proofs.SolveLaws.{joined_rest}
use Rattle.run.proofs.solve.join_rest.Goals as goal

pub loop-t-init : goal.loop-t-init
loop-t-init c = (c.requires.waiting_len, taken_none _ _ _ _)

pub loop-t-preserved : goal.loop-t-preserved
loop-t-preserved c = let k = taken_more _ _ _ _ _ _ _ _ (sym (zero-add c.loop-t.t)) (omega arith) refl c.loop-t.invariant.1 in
    (k.long ∙ c.requires.waiting_len, k)

pub returns : goal.returns
returns c = record { waiting_len_2 = c.loop-t.invariant.0; by_index = joined_rest _ _ _ _ c.loop-t.t (omega arith) c.loop-t.invariant.1 }
