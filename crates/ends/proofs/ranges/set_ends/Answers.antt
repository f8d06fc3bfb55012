-- One variable after the other, each with its two ends.
use mathlib.Core.Path.{◌≡◌, ◌∙◌}
use native.Mathlib.Omega.{arith}
use borrow.Author.Rules.{rules}
use mir.Syntax.{w64}
use mir.Val.{to_z, of_z}
use lib.IntN.{pos}
use lib.ListN.{get_or, length-set}
use Rattle.program.specs.Program.{variables_at}
use Rattle.program.specs.Readings.{valued}
use Rattle.reduct.proofs.Fills.{filled_none, filled_more, filled_done}
use Rattle.ends.proofs.RangeLaws.{other_variable, stop_variable}
use Rattle.ends.proofs.ranges.set_ends.Goals as goal

pub loop-v-init : goal.loop-v-init
loop-v-init c = (omega arith, c.requires.others_len.0, c.requires.others_len.1, filled_none _ _, filled_none _ _)

pub loop-v-preserved : goal.loop-v-preserved
loop-v-preserved c = let e : to_z w64 (of_z w64 (get_or c.args.lows.now c.loop-v.v (pos 0))) ≡ get_or c.args.lows.now c.loop-v.v (pos 0) = search rules in
    let f : to_z w64 (of_z w64 (get_or c.args.highs.now c.loop-v.v (pos 0))) ≡ get_or c.args.highs.now c.loop-v.v (pos 0) = search rules in
    let x = c.variable-x.ensures c.args.variables (omega arith) in
    let p : to_z w64 (of_z w64 c.other_end-other.result) ≡ c.other_end-other.result = search rules in
    let q : to_z w64 (of_z w64 c.stop_end-stop.result) ≡ c.stop_end-stop.result = search rules in
    let vs = variables_at c.args.file.now c.args.variables in (
      omega arith,
      length-set c.loop-v.others c.loop-v.v (to_z w64 (of_z w64 c.other_end-other.result)) ∙ c.loop-v.invariant.1,
      length-set c.loop-v.stops c.loop-v.v (to_z w64 (of_z w64 c.stop_end-stop.result)) ∙ c.loop-v.invariant.2,
      filled_more _ (omega arith) c.loop-v.invariant.3 (p ∙ c.other_end-other.ensures ∙ other_variable vs (valued c.args.lows.now) (valued c.args.highs.now) c.loop-v.v x e f),
      filled_more _ (omega arith) c.loop-v.invariant.4 (q ∙ c.stop_end-stop.ensures ∙ stop_variable vs (valued c.args.lows.now) (valued c.args.highs.now) c.loop-v.v x e f),
    )

pub returns : goal.returns
returns c = record { others_len_2 = (c.loop-v.invariant.1, c.loop-v.invariant.2); filled = filled_done (omega arith) c.loop-v.invariant.3; filled_2 = filled_done (omega arith) c.loop-v.invariant.4 }
