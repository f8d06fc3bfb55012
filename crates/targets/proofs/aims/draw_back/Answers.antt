-- One variable after the other, each with its first aim.
use mathlib.Core.Path.{◌≡◌, ◌∙◌}
use native.Mathlib.Omega.{arith}
use borrow.Author.Rules.{rules}
use mir.Syntax.{w64}
use mir.Val.{to_z, of_z}
use lib.ListN.{length-set}
use Rattle.reduct.proofs.Fills.{filled_none, filled_more, filled_done}
use Rattle.targets.proofs.aims.draw_back.Goals as goal

pub loop-v-init : goal.loop-v-init
loop-v-init c = (omega arith, c.requires.aims_len.0, filled_none _ _)

pub aim_at-aim-requires : goal.aim_at-aim-requires
aim_at-aim-requires c = record { variables_in_bounds = c.requires.variables_in_bounds; v_lt_variables = (omega arith, c.requires.aims_len.1) }

pub loop-v-preserved : goal.loop-v-preserved
loop-v-preserved c = let p : to_z w64 (of_z w64 c.aim_at-aim.result) ≡ c.aim_at-aim.result = search rules in
    (omega arith, length-set c.loop-v.aims c.loop-v.v (to_z w64 (of_z w64 c.aim_at-aim.result)) ∙ c.loop-v.invariant.1, filled_more _ (omega arith) c.loop-v.invariant.2 (p ∙ c.aim_at-aim.ensures))

pub returns : goal.returns
returns c = record { aims_len_2 = c.loop-v.invariant.1; filled = filled_done (omega arith) c.loop-v.invariant.2 }
