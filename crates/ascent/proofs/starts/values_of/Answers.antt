-- One variable after the other, each with the value on its own side.
use mathlib.Core.Path.{◌≡◌, ◌∙◌}
use native.Mathlib.Omega.{arith}
use borrow.Author.Rules.{rules}
use mir.Syntax.{w64}
use mir.Val.{to_z, of_z}
use lib.ListN.{length-set}
use Rattle.program.specs.Program.{variables_at}
use Rattle.reduct.proofs.Fills.{filled_none, filled_more, filled_done}
use Rattle.ascent.proofs.ValueLaws.{risen_at}
use Rattle.ascent.proofs.starts.values_of.Goals as goal

pub loop-v-init : goal.loop-v-init
loop-v-init c = (omega arith, c.requires.model_len, filled_none _ _)

pub loop-v-preserved : goal.loop-v-preserved
loop-v-preserved c = let r : to_z w64 (of_z w64 c.read-value.result) ≡ c.read-value.result = search rules in
    let x = c.variable-x.ensures c.args.n (omega arith) in (
      omega arith,
      length-set c.loop-v.model c.loop-v.v (to_z w64 (of_z w64 c.read-value.result)) ∙ c.loop-v.invariant.1,
      filled_more _ (omega arith) c.loop-v.invariant.2 (r ∙ risen_at (variables_at c.args.file.now c.args.n) c.args.sides.now c.loop-v.v x c.own_side.ensures c.read-value.ensures),
    )

pub returns : goal.returns
returns c = record { model_len_2 = c.loop-v.invariant.1; filled = filled_done (omega arith) c.loop-v.invariant.2 }
