-- One variable after the other, each on both sides.
use mathlib.Core.Path.{◌≡◌}
use native.Mathlib.Omega.{arith}
use borrow.Author.Rules.{rules}
use mir.Syntax.{w64}
use mir.Val.{to_z, of_z}
use lib.IntN.{pos}
use lib.ListN.{get_or}
use Rattle.ascent.proofs.ValueLaws.{starts_none, starts_more, starts_done}
use Rattle.ascent.proofs.starts.start_sides.Goals as goal

pub loop-v-init : goal.loop-v-init
loop-v-init c = (omega arith, c.requires.sides_len, starts_none _ _ _ _)

pub start_one-requires : goal.start_one-requires
start_one-requires c = c.loop-v.invariant.1

pub loop-v-preserved : goal.loop-v-preserved
loop-v-preserved c = let e : to_z w64 (of_z w64 (get_or c.args.assigned.now c.loop-v.v (pos 0))) ≡ get_or c.args.assigned.now c.loop-v.v (pos 0) = search rules in
    let o : to_z w64 (of_z w64 (get_or c.args.others.now c.loop-v.v (pos 0))) ≡ get_or c.args.others.now c.loop-v.v (pos 0) = search rules in
    let x = c.variable-x.ensures c.args.n (omega arith) in
    (omega arith, c.start_one.ensures.sides_len, starts_more c.loop-v.invariant.1 (omega arith) c.loop-v.invariant.2 x e o c.start_one.ensures.sides_after)

pub returns : goal.returns
returns c = record { sides_len_2 = c.loop-v.invariant.1; sides_start = starts_done (omega arith) c.loop-v.invariant.2 }
