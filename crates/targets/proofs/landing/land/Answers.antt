-- One variable after the other becomes its aim.
use mathlib.Core.Path.{◌≡◌}
use native.Mathlib.Omega.{arith}
use mir.Syntax.{w64}
use mir.Val.{to_z, of_z}
use lib.IntN.{pos}
use lib.ListN.{get_or}
use borrow.Author.Rules.{rules}
use Rattle.targets.proofs.LandLaws.{land_on, land_nearer}
use Rattle.targets.proofs.landing.land.Goals as goal

pub loop-v-init : goal.loop-v-init
loop-v-init c = (omega arith, c.requires.variables_le_max_variables.1, c.requires.waiting_len, λ s P R θ offsets masks others stops cut k. (k, omega arith))

pub loop-v-preserved : goal.loop-v-preserved
loop-v-preserved c = let t : to_z w64 (of_z w64 (get_or c.args.aims.now c.loop-v.v (pos 0))) ≡ get_or c.args.aims.now c.loop-v.v (pos 0) = search rules in (
  omega arith,
  c.place.ensures.model_len_2,
  c.place.ensures.waiting_len_2,
  λ s P R θ offsets masks others stops cut k₀.
      let h = c.loop-v.invariant.3 s P R θ offsets masks others stops cut k₀ in (
        land_on h.0 c.loop-v.v (omega arith) c.loop-v.invariant.1 _ t _ _ c.place.ensures.placed_at,
        omega (arith, h.1, land_nearer h.0 c.loop-v.v (omega arith) c.loop-v.invariant.1 _ t _ _ c.place.ensures.placed_at),
      ),
)

pub returns : goal.returns
returns c = record { model_len = c.loop-v.invariant.1; waiting_len_2 = c.loop-v.invariant.2; by_index = c.loop-v.invariant.3 }
