-- One variable after the other: the first that is founded from above ends the loop.
use mathlib.Core.Path.{sym, ap, ◌∙◌}
use native.Mathlib.Omega.{arith}
use borrow.Author.Count.{below_more}
use Rattle.program.specs.Variables.{from_above}
use Rattle.program.proofs.Conditions.{below_none, below_some}
use Rattle.conditions.proofs.short.any_above.Goals as goal

pub returns-then-is_from_above : goal.returns-then-is_from_above
returns-then-is_from_above c =
    let x = c.variable-variable.ensures c.args.variables (omega arith) in
    sym (below_some _ _ c.loop-v.v (omega arith) (sym (c.is_from_above.ensures ∙ ap from_above x) ∙ c.if-is_from_above.true))

pub loop-v-preserved : goal.loop-v-preserved
loop-v-preserved c =
    let x = c.variable-variable.ensures c.args.variables (omega arith) in
    below_more _ c.loop-v.v c.loop-v.invariant (sym (c.is_from_above.ensures ∙ ap from_above x) ∙ c.if-is_from_above.false)

pub returns : goal.returns
returns c = sym (below_none _ _ (λ v l. c.loop-v.invariant v (omega arith)))
