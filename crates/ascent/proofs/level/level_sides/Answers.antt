-- One variable after the other, on both sides.
use Prim.Native.Nat.{◌<◌}
use mathlib.Core.Path.{◌≡◌, ◌∙◌}
use native.Mathlib.Omega.{arith}
use borrow.Author.Rules.{rules}
use mir.Syntax.{w64}
use mir.Val.{to_z, of_z}
use lib.IntN.{ℤ, pos}
use lib.ListN.{take, get_or}
use lib.Seq.{length-take-le, get_or-take}
use Rattle.program.specs.Readings.{valued}
use Rattle.ascent.proofs.LevelLaws.{level_none, level_next, level_done}
use Rattle.ascent.proofs.level.level_sides.Goals as goal

pub loop-v-init : goal.loop-v-init
loop-v-init c = (c.requires.sides_len, level_none _ _)

pub loop-v-preserved : goal.loop-v-preserved
loop-v-preserved c = let b : ℤ = get_or (take c.args.n c.args.assigned.now) c.loop-v.v (pos 0) in
    let h : c.loop-v.v < c.args.n = omega (arith, length-take-le c.args.n c.args.assigned.now) in
    let e : to_z w64 (of_z w64 b) ≡ b = search rules in
    let y : to_z w64 (of_z w64 b) ≡ valued c.args.assigned.now c.loop-v.v = e ∙ get_or-take c.args.n c.args.assigned.now c.loop-v.v (pos 0) h in
    (c.write-in-loop-v.ensures.sides_len, rw (c.write-in-loop-v.ensures.sides_after, c.write.ensures.sides_after) (level_next (omega arith) c.loop-v.invariant.0 c.loop-v.invariant.1 y y))

pub returns : goal.returns
returns c = record { sides_len_2 = c.loop-v.invariant.0; level_sides = level_done (omega (arith, length-take-le c.args.n c.args.assigned.now)) c.loop-v.invariant.1 }
