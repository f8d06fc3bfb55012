-- A refusal has its line; else each variable has as many bytes of the ranges as it must.
use mathlib.Core.Path.{refl}
use native.Mathlib.Omega.{arith}
use Rattle.entries.specs.Text.{line}
use Rattle.listing.proofs.ListLaws.{bounded_fits, told_refusal, told_bounds}
use Rattle.listing.proofs.list_called.Goals as goal

pub put_bounds-requires : goal.put_bounds-requires
put_bounds-requires c = let f = bounded_fits refl (rw c.in-Ok.is at c.bounds.ensures) in
    (f.0, f.1, omega (arith, f.0))

pub returns-in-Err : goal.returns-in-Err
returns-in-Err c = told_refusal (rw c.in-Err.is at c.bounds.ensures) c.put_refused.ensures.appends c.put_refused.ensures.upper_bound

pub returns-in-Ok : goal.returns-in-Ok
returns-in-Ok c = told_bounds refl (rw c.in-Ok.is at c.bounds.ensures) c.put_bounds.ensures.appends c.put_bounds.ensures.upper_bound
