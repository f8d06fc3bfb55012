-- Invariant: the first v ranges are loaded, the others as they were.
use mathlib.Core.Path.{◌≡◌, refl, ◌∙◌}
use native.Mathlib.Omega.{arith}
use borrow.Author.Rules.{rules}
use mir.Syntax.{w64}
use mir.Val.{to_z, of_z}
use lib.ListN.{length-set}
use Rattle.reduct.proofs.Fills.{filled_none, filled_more, filled_done}
use Rattle.ends.proofs.ranges.load.Goals as goal

pub loop-v-init : goal.loop-v-init
loop-v-init c = (omega arith, refl, c.requires.1, c.requires.2, filled_none _ _, filled_none _ _)

pub loop-v-preserved : goal.loop-v-preserved
loop-v-preserved c = let p : to_z w64 (of_z w64 c.signed_at-low.result) ≡ c.signed_at-low.result = search rules in
    let q : to_z w64 (of_z w64 c.signed_at-high.result) ≡ c.signed_at-high.result = search rules in (
      omega arith,
      refl,
      length-set c.loop-v.lows c.loop-v.v (to_z w64 (of_z w64 c.signed_at-low.result)) ∙ c.loop-v.invariant.2,
      length-set c.loop-v.highs c.loop-v.v (to_z w64 (of_z w64 c.signed_at-high.result)) ∙ c.loop-v.invariant.3,
      filled_more _ (omega arith) c.loop-v.invariant.4 (p ∙ c.signed_at-low.ensures),
      filled_more _ (omega arith) c.loop-v.invariant.5 (q ∙ c.signed_at-high.ensures),
    )

pub returns : goal.returns
returns c = record { lows_len = (c.loop-v.invariant.2, c.loop-v.invariant.3); filled = filled_done (omega arith) c.loop-v.invariant.4; filled_2 = filled_done (omega arith) c.loop-v.invariant.5 }
