-- Invariant: the first i values are loaded, the others as they were.
use mathlib.Core.Path.{◌≡◌, refl, ◌∙◌}
use native.Mathlib.Omega.{arith}
use borrow.Author.Rules.{rules}
use mir.Syntax.{w64}
use mir.Val.{to_z, of_z}
use lib.ListN.{length-set}
use Rattle.reduct.proofs.Fills.{filled_none, filled_more, filled_done}
use Rattle.reduct.proofs.loading.load.Goals as goal

pub loop-v-init : goal.loop-v-init
loop-v-init c = (omega arith, refl, c.requires.1, filled_none _ _)

pub loop-v-preserved : goal.loop-v-preserved
loop-v-preserved c = let r : to_z w64 (of_z w64 c.signed_at-value.result) ≡ c.signed_at-value.result = search rules in (
  omega arith,
  refl,
  length-set c.loop-v.values c.loop-v.v (to_z w64 (of_z w64 c.signed_at-value.result)) ∙ c.loop-v.invariant.2,
  filled_more _ (omega arith) c.loop-v.invariant.3 (r ∙ c.signed_at-value.ensures),
)

pub returns : goal.returns
returns c = record { values_len = c.loop-v.invariant.2; filled = filled_done (omega arith) c.loop-v.invariant.3 }
