-- The faults of the terms before i are noted.
use native.Mathlib.Omega.{arith}
use Rattle.faults.proofs.FaultLaws.{faults_none, faults_more, faults_done}
use Rattle.faults.proofs.body_faults.Goals as goal

pub loop-i-init : goal.loop-i-init
loop-i-init c = faults_none _ _ _ _ c.none-all.ensures

pub loop-i-preserved : goal.loop-i-preserved
loop-i-preserved c = faults_more _ _ _ _ _ _ _ c.loop-i.invariant c.term_faults-one.ensures c.with-all.ensures

pub returns : goal.returns
returns c = faults_done _ _ _ _ _ _ (omega arith) c.loop-i.invariant
