use borrow.Author.Rules.{rules}
use Prim.Native.Nat.{◌<◌}
use mathlib.Core.Path.{◌≡◌}
use native.Mathlib.Omega.{arith}
use lib.ListN.{length}
use mir.Syntax.{w64}
use mir.Val.{to_z, of_z}
use Rattle.idleness.proofs.MostLaws.{set_small}
use Rattle.guess.proofs.Near.{set_stride}
use Rattle.guess.proofs.strides.end.Goals as goal

pub loop-v-init : goal.loop-v-init
loop-v-init c = (c.requires.0, c.requires.1, search rules, λ u l. let f : ⊥ = omega arith in absurd f)

pub loop-v-preserved : goal.loop-v-preserved
loop-v-preserved c = let z : to_z w64 (of_z w64 c.ended-stride.result) ≡ c.ended-stride.result = search rules in
    let n : c.loop-v.v < length c.loop-v.strides = omega (arith, c.loop-v.invariant.0, c.loop-v-test.true) in
    (search rules, rw z (set_small c.loop-v.strides _ _ n c.loop-v.invariant.1 c.ended-stride.ensures.0), omega arith, rw z (set_stride c.loop-v.strides c.loop-v.v _ n c.ended-stride.ensures.1 c.loop-v.invariant.3))

pub returns : goal.returns
returns c = record { strides_len = (c.loop-v.invariant.0, c.loop-v.invariant.1); by_index = λ u l m. c.loop-v.invariant.3 u (omega (arith, c.loop-v-test.false, c.listed-many.ensures.by_index u l m)) }
