-- The answer is the call's own, packed; its numbers fit.
use native.Mathlib.Omega.{arith}
use Rattle.packing.proofs.Bounds.{normalize_fits}
use Rattle.founded.proofs.Exported.{exported_normalize}
use Rattle.founded.proofs.founded_normalize.Goals as goal

pub pack-requires : goal.pack-requires
pack-requires c = rw c.of_rewriting.ensures (normalize_fits (λ i. omega (arith, c.type_inv.file i)) c.normalize.ensures)

pub returns : goal.returns
returns c = exported_normalize c.pack.ensures (λ i. omega (arith, c.type_inv.file i)) c.normalize.ensures
    c.of_rewriting.ensures
