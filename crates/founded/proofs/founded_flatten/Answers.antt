-- The answer is the call's own, packed; its numbers fit.
use native.Mathlib.Omega.{arith}
use Rattle.packing.proofs.Bounds.{flatten_fits}
use Rattle.founded.proofs.Exported.{exported_flatten}
use Rattle.founded.proofs.founded_flatten.Goals as goal

pub pack-requires : goal.pack-requires
pack-requires c = rw c.of_rewriting.ensures (flatten_fits c.flatten.ensures)

pub returns : goal.returns
returns c = exported_flatten c.pack.ensures (λ i. omega (arith, c.type_inv.nested i)) c.flatten.ensures
    c.of_rewriting.ensures
