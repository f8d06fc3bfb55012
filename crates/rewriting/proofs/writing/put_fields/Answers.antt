use Prim.Native.Nat.{◌<◌}
use mathlib.Core.Path.{◌≡◌}
use native.Mathlib.Omega.{arith}
use lib.Seq.{length-take-le, get_or-take}
use Rattle.rewriting.proofs.Puts.{begun, field_inside, so_far_room, so_far_more}
use Rattle.rewriting.proofs.writing.put_fields.Goals as goal

pub loop-place-init : goal.loop-place-init
loop-place-init c = begun _ _ _ _

pub stretch-field-requires : goal.stretch-field-requires
stretch-field-requires c = let h : c.loop-place.place-index < c.args.n = omega (arith, length-take-le c.args.n c.args.places.now c.requires.places_are) in
    rw (c.wide.ensures.0, get_or-take c.args.n c.args.places.now c.loop-place.place-index 0 h) (field_inside c.requires c.loop-place.place-index h)

pub put-end-requires : goal.put-end-requires
put-end-requires c = let h : c.loop-place.place-index < c.args.n = omega (arith, length-take-le c.args.n c.args.places.now c.requires.places_are) in
    let e = rw (c.wide.ensures.0, get_or-take c.args.n c.args.places.now c.loop-place.place-index 0 h) at c.stretch-field.ensures in
    so_far_room c.requires _ h c.loop-place.invariant _ e

pub loop-place-preserved : goal.loop-place-preserved
loop-place-preserved c = let h : c.loop-place.place-index < c.args.n = omega (arith, length-take-le c.args.n c.args.places.now c.requires.places_are) in
    let e = rw (c.wide.ensures.0, get_or-take c.args.n c.args.places.now c.loop-place.place-index 0 h) at c.stretch-field.ensures in
    so_far_more c.requires _ h c.loop-place.invariant _ _ _ e c.put-end.ensures.0 c.put-end.ensures.1

pub returns : goal.returns
returns c = let e : c.loop-place.place-index ≡ c.args.n = omega (arith, length-take-le c.args.n c.args.places.now c.requires.places_are) in
    let x = rw e at c.loop-place.invariant in
    record { value = x.ends; buffer_after = x.bytes }
