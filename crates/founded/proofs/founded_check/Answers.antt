-- The answer is the call's own, packed; its numbers fit.
use Rattle.packing.proofs.Bounds.{check_fits}
use Rattle.founded.proofs.Exported.{exported_check}
use Rattle.founded.proofs.founded_check.Goals as goal

pub pack-requires : goal.pack-requires
pack-requires c = rw c.of_verdict.ensures (check_fits c.check.ensures.checks)

pub returns : goal.returns
returns c = exported_check c.pack.ensures c.check.ensures.checks c.check.ensures.demands c.of_verdict.ensures
