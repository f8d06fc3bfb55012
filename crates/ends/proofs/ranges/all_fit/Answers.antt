-- One range after the other: the first that does not fit ends the loop.
use mathlib.Core.Path.{◌≡◌, sym, ◌∙◌}
use native.Mathlib.Omega.{arith}
use borrow.Author.Rules.{rules}
use borrow.Author.Count.{below_more}
use mir.Syntax.{w64}
use mir.Val.{to_z, of_z}
use lib.IntN.{pos}
use lib.ListN.{get_or}
use Rattle.program.specs.Program.{variables_at}
use Rattle.program.specs.Readings.{valued}
use Rattle.ends.proofs.RangeLaws.{fits_variable}
use Rattle.ends.proofs.ranges.all_fit.Goals as goal

pub loop-v-init : goal.loop-v-init
loop-v-init c = (omega arith, λ u l. absurd (omega arith))

pub returns-then-not-fits : goal.returns-then-not-fits
returns-then-not-fits c = let e : to_z w64 (of_z w64 (get_or c.args.lows.now c.loop-v.v (pos 0))) ≡ get_or c.args.lows.now c.loop-v.v (pos 0) = search rules in
    let f : to_z w64 (of_z w64 (get_or c.args.highs.now c.loop-v.v (pos 0))) ≡ get_or c.args.highs.now c.loop-v.v (pos 0) = search rules in
    let x = c.variable-x.ensures c.args.variables (omega arith) in
    let i = fits_variable (variables_at c.args.file.now c.args.variables) (valued c.args.lows.now) (valued c.args.highs.now) c.loop-v.v x e f in
    (c.loop-v.v, omega arith, sym i ∙ sym c.fits.ensures ∙ c.if-not-fits.true)

pub loop-v-preserved : goal.loop-v-preserved
loop-v-preserved c = let e : to_z w64 (of_z w64 (get_or c.args.lows.now c.loop-v.v (pos 0))) ≡ get_or c.args.lows.now c.loop-v.v (pos 0) = search rules in
    let f : to_z w64 (of_z w64 (get_or c.args.highs.now c.loop-v.v (pos 0))) ≡ get_or c.args.highs.now c.loop-v.v (pos 0) = search rules in
    let x = c.variable-x.ensures c.args.variables (omega arith) in
    let i = fits_variable (variables_at c.args.file.now c.args.variables) (valued c.args.lows.now) (valued c.args.highs.now) c.loop-v.v x e f in
    (omega arith, below_more _ c.loop-v.v c.loop-v.invariant.1 (sym i ∙ sym c.fits.ensures ∙ c.if-not-fits.false))

pub returns : goal.returns
returns c = λ v l. c.loop-v.invariant.1 v (omega arith)
