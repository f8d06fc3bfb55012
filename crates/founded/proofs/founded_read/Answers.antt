-- The answer is the call's own, packed; its numbers fit.
use Rattle.packing.proofs.Bounds.{read_fits}
use Rattle.founded.proofs.Exported.{exported_read}
use Rattle.founded.proofs.founded_read.Goals as goal

pub pack-requires : goal.pack-requires
pack-requires c = rw c.of_reading.ensures (read_fits c.read.ensures)

pub returns : goal.returns
returns c = exported_read c.pack.ensures c.read.ensures c.of_reading.ensures
