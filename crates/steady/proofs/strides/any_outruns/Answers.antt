-- One position after the other.
use mathlib.Core.Path.{◌≡◌, refl}
use native.Mathlib.Omega.{arith}
use lib.ListN.{length}
use mir.Syntax.{w64}
use mir.Val.{to_z, of_z}
use mir.Facts.{to_z-of_z}
use Rattle.program.specs.Program.{terms_of}
use Rattle.program.proofs.Bodies.{terms_length}
use Rattle.program.proofs.Conditions.{any_none, any_more}
use Rattle.steady.proofs.strides.any_outruns.Goals as goal

pub loop-i-init : goal.loop-i-init
loop-i-init c = (omega arith, refl, any_none _)

pub outruns-longer-requires : goal.outruns-longer-requires
outruns-longer-requires c = record { pos_bound = (rw (to_z-of_z c.ranges.own) c.requires.pos_bound.0, omega (arith, c.loop-i.invariant.1), omega (arith, c.requires.pos_bound.1, c.loop-i.invariant.1)); small = c.requires.small }

pub loop-i-preserved : goal.loop-i-preserved
loop-i-preserved c = (omega arith, refl, any_more c.loop-i.i _ c.loop-i.found c.outruns-longer.result c.loop-i.invariant.2 c.outruns-longer.ensures)

pub returns : goal.returns
returns c = let e : c.loop-i.i ≡ length (terms_of c.args.body.now) = omega (arith, terms_length c.args.body.now) in
    let o : to_z w64 (of_z w64 c.args.own) ≡ c.args.own = to_z-of_z c.ranges.own in
    rw (← e, ← o) c.loop-i.invariant.2
