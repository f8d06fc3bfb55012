-- Invariant: the first words of row i have taken in those of row k, and no other row has changed.
use native.Mathlib.Omega.{arith}
use Rattle.words.proofs.Joins.{taken_none}
use Rattle.reach.proofs.RowLaws.{row_more, row_all}
use Rattle.reach.proofs.join.Goals as goal

-- src/lib.rt:56:13

-- src/lib.rt:57:5

pub loop-t-init : goal.loop-t-init
loop-t-init c = (omega arith, taken_none _ _ _ _)

-- src/lib.rt:58:22

-- src/lib.rt:58:17

-- src/lib.rt:58:17

-- src/lib.rt:59:28

-- src/lib.rt:59:23

-- src/lib.rt:59:23

-- src/lib.rt:59:14

-- src/lib.rt:59:9

-- src/lib.rt:59:9

-- src/lib.rt:57:9

-- src/lib.rt:57:5

-- src/lib.rt:57:5

pub loop-t-preserved : goal.loop-t-preserved
loop-t-preserved c = (omega arith, row_more _ _ _ _ _ (omega arith) (omega arith) c.loop-t.invariant.1)

-- src/lib.rt:49:1

-- src/lib.rt:49:1

pub returns : goal.returns
returns c = record { rows_len_unchanged = c.loop-t.invariant.1.long; joined = row_all _ _ _ _ c.loop-t.t (omega arith) (omega arith) c.loop-t.invariant.1 }
