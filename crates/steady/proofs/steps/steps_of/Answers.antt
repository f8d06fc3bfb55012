-- The mask's bit says whether the position moves; both values are small, so their difference fits.
use mathlib.Core.Path.{◌≡◌, ap, ap₂, ◌∙◌}
use native.Mathlib.Omega.{arith}
use lib.IntN.{ℤ, pos, nat_abs}
use mir.Syntax.{w64}
use mir.Val.{to_z, of_z}
use borrow.Author.Tests.{eq-eqb, ne_eqb}
use Rattle.words.specs.Bit.{bit}
use Rattle.program.specs.Readings.{valued}
use Rattle.steady.specs.Estimate.{distance}
use Rattle.steady.proofs.Machine.{steps_kept, steps_none}
use borrow.Author.Rules.{rules}
use Rattle.steady.proofs.steps.steps_of.Goals as goal

pub distance-requires : goal.distance-requires
distance-requires c = let f : to_z w64 (of_z w64 (valued c.args.readings.first.now c.wide-v.result)) ≡ valued c.args.readings.first.now c.wide-v.result = search rules in
    let a : to_z w64 (of_z w64 (valued c.args.aims.now c.wide-v.result)) ≡ valued c.args.aims.now c.wide-v.result = search rules in
    omega (arith, ap nat_abs f, ap nat_abs a, c.requires.1 c.wide-v.result, c.requires.2 c.wide-v.result)

pub returns-then-readings-i-eq1 : goal.returns-then-readings-i-eq1
unfolding bit
returns-then-readings-i-eq1 c = let f : to_z w64 (of_z w64 (valued c.args.readings.first.now c.wide-v.result)) ≡ valued c.args.readings.first.now c.wide-v.result = search rules in
    let g : to_z w64 (of_z w64 (valued c.args.aims.now c.wide-v.result)) ≡ valued c.args.aims.now c.wide-v.result = search rules in
    let z : to_z w64 (of_z w64 c.distance.result) ≡ c.distance.result = search rules in
    let x : c.wide-v.result ≡ c.args.x = c.wide-v.ensures.0 in
    z ∙ c.distance.ensures ∙ ap₂ (λ (y z : ℤ). pos (distance y z)) (f ∙ ap (valued c.args.readings.first.now) x) (g ∙ ap (valued c.args.aims.now) x)
    ∙ ap pos (steps_kept c.args.readings.kept c.args.readings.first.now c.args.aims.now c.args.i c.args.x (eq-eqb _ 1 c.if-readings-i-eq1.true))

pub returns-else-readings-i-eq1 : goal.returns-else-readings-i-eq1
unfolding bit
returns-else-readings-i-eq1 c = ap pos (steps_none c.args.readings.kept c.args.readings.first.now c.args.aims.now c.args.i c.args.x (ne_eqb _ 1 c.if-readings-i-eq1.false))
