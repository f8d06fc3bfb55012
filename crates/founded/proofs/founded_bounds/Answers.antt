-- The answer is the call's own, packed; its numbers fit.
use Rattle.packing.proofs.Bounds.{bounds_fits}
use Rattle.founded.proofs.Exported.{exported_bounds}
use Rattle.founded.proofs.founded_bounds.Goals as goal

pub pack-requires : goal.pack-requires
pack-requires c = rw c.of_bounding.ensures (bounds_fits c.bounds.ensures)

pub returns : goal.returns
returns c = exported_bounds c.pack.ensures c.bounds.ensures c.of_bounding.ensures
