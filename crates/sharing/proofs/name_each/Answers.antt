-- Invariant: the bytes before x are named, those from x on are as they were.
use mathlib.Core.Path.{◌≡◌}
use native.Mathlib.Omega.{arith}
use Rattle.sharing.proofs.Sharings.{named_none, named_more}
use Rattle.sharing.proofs.name_each.Goals as goal

pub loop-x-init : goal.loop-x-init
loop-x-init c = (omega arith, named_none _ _)

pub first_sharing-y-requires : goal.first_sharing-y-requires
first_sharing-y-requires c = omega (arith, c.requires.0.few, c.requires.0.room)

pub overflow_cast-buffer : goal.overflow_cast-buffer
overflow_cast-buffer c = omega (arith, c.requires.0.few, c.first_sharing-y.ensures.0)

pub bounds-buffer-x : goal.bounds-buffer-x
bounds-buffer-x c = omega (arith, c.loop-x.invariant.1.long)

pub loop-x-preserved : goal.loop-x-preserved
loop-x-preserved c = (omega arith, named_more _ _ _ _ c.loop-x.invariant.1 (omega arith) c.first_sharing-y.ensures.1)

pub shape_of-buffer : goal.shape_of-buffer
shape_of-buffer c = c.loop-x.invariant.1.long

pub returns : goal.returns
returns c = let e : c.loop-x.x ≡ c.args.variables = omega arith in
    rw e at c.loop-x.invariant.1
