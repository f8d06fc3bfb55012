-- The answer is the call's own, packed; its numbers fit.
use Rattle.packing.proofs.Bounds.{least_fits}
use Rattle.founded.proofs.Exported.{exported_least}
use Rattle.founded.proofs.founded_least.Goals as goal

pub pack-requires : goal.pack-requires
pack-requires c = rw c.of_solved.ensures (least_fits c.least.ensures)

pub returns : goal.returns
returns c = exported_least c.pack.ensures c.least.ensures c.of_solved.ensures
