-- The answer is the call's own, packed; its numbers fit.
use Rattle.packing.proofs.Bounds.{begin_fits}
use Rattle.founded.proofs.Exported.{exported_begin}
use Rattle.founded.proofs.founded_begin.Goals as goal

pub pack-requires : goal.pack-requires
pack-requires c = rw c.of_beginning.ensures (begin_fits c.begin.ensures)

pub returns : goal.returns
returns c = exported_begin c.pack.ensures c.begin.ensures c.of_beginning.ensures
