-- One variable after the other: the first outside its range ends the loop.
use mathlib.Core.Path.{◌≡◌, sym, ◌∙◌}
use native.Mathlib.Omega.{arith}
use borrow.Author.Rules.{rules}
use mir.Syntax.{w64}
use mir.Val.{to_z, of_z}
use lib.IntN.{pos}
use lib.ListN.{get_or}
use borrow.Author.Count.{below_more}
use borrow.Author.Tests.{not-true, not-false}
use Rattle.reduct.proofs.Ranges.{inside_variable}
use Rattle.program.specs.Readings.{valued}
use Rattle.reduct.proofs.loading.first_outside.Goals as goal

pub loop-v-init : goal.loop-v-init
loop-v-init c = λ u l. absurd (omega arith)

pub returns-then-not-contains : goal.returns-then-not-contains
returns-then-not-contains c = let e : to_z w64 (of_z w64 (get_or c.args.values.now c.loop-v.v (pos 0))) ≡ get_or c.args.values.now c.loop-v.v (pos 0) = search rules in
    let i = inside_variable c.args.file.now c.args.variables (valued c.args.values.now) c.loop-v.v (c.variable-x.ensures _ (omega arith)) e in
    (omega arith, sym i ∙ sym c.contains.ensures ∙ not-true _ c.if-not-contains.true-raw, c.loop-v.invariant)

pub loop-v-preserved : goal.loop-v-preserved
loop-v-preserved c = let e : to_z w64 (of_z w64 (get_or c.args.values.now c.loop-v.v (pos 0))) ≡ get_or c.args.values.now c.loop-v.v (pos 0) = search rules in
    let i = inside_variable c.args.file.now c.args.variables (valued c.args.values.now) c.loop-v.v (c.variable-x.ensures _ (omega arith)) e in
    below_more _ c.loop-v.v c.loop-v.invariant (sym i ∙ sym c.contains.ensures ∙ not-false _ c.if-not-contains.false-raw)

pub returns : goal.returns
returns c = λ v l. c.loop-v.invariant v (omega arith)
