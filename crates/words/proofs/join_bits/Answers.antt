-- Each turn has word t take in the other's.
use mathlib.Core.Path.{sym, ap}
use Prim.Native.Nat.{ℕ}
use native.Mathlib.Nat.{zero-add}
use native.Mathlib.Omega.{arith}
use lib.ListN.{get_or}
use Rattle.words.proofs.Joins.{taken_none, taken_more, taken_whole}
use Rattle.words.proofs.join_bits.Goals as goal

pub loop-t-init : goal.loop-t-init
loop-t-init c = taken_none _ _ _ _

pub loop-t-preserved : goal.loop-t-preserved
loop-t-preserved c = let e = sym (zero-add c.loop-t.t) in
    taken_more _ _ _ _ _ _ _ _ e (omega arith) (ap (λ (m : ℕ). get_or c.args.others.now m 0) e) c.loop-t.invariant

pub returns : goal.returns
returns c = record { words_len_unchanged = c.loop-t.invariant.long; by_index = taken_whole _ _ _ c.loop-t.t (omega arith) (omega arith) c.loop-t.invariant }
