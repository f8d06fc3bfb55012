use mathlib.Core.Path.{◌≡◌, refl, ◌∙◌}
use native.Mathlib.Omega.{arith}
use mir.Syntax.{w64}
use mir.Val.{to_z, of_z}
use Rattle.evaluation.proofs.Gives.{divided_evaluable}
use borrow.Author.Rules.{rules}
use Rattle.guess.proofs.levels.quotient_level.Goals as goal

pub sum-least-requires : goal.sum-least-requires
sum-least-requires c = let z : to_z w64 (of_z w64 c.header-rule.result.c) ≡ c.header-rule.result.c = search rules in
    let e = divided_evaluable c.args.value.now c.header-rule.ensures c.body-body.ensures (c.header-rule.ensures.form_is ∙ c.requires.evaluable.2) c.divisor-divisor.ensures c.requires.evaluable.0 in
    record { c_bound = (rw z e.near, omega (arith, c.requires.evaluable.0.few, c.body-body.ensures.many)); coefficients = e.weights refl; small = (c.requires.small.0, c.requires.small.2) }

pub sum-most-requires : goal.sum-most-requires
sum-most-requires c = let z : to_z w64 (of_z w64 c.header-rule.result.c) ≡ c.header-rule.result.c = search rules in
    let e = divided_evaluable c.args.value.now c.header-rule.ensures c.body-body.ensures (c.header-rule.ensures.form_is ∙ c.requires.evaluable.2) c.divisor-divisor.ensures c.requires.evaluable.0 in
    record { c_bound = (rw z e.near, omega (arith, c.requires.evaluable.0.few, c.body-body.ensures.many)); coefficients = e.weights refl; small = (c.requires.small.1, c.requires.small.2) }
