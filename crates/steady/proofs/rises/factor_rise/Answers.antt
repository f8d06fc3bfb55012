-- Each way of the tests is a case of the definition.
-- the present values and the aims
use mathlib.Core.Path.{◌≡◌, sym, ap, ◌∙◌}
use lib.IntN.{pos}
use lib.Signed.{le_z}
use mir.Syntax.{w64}
use mir.Val.{to_z, of_z}
use Rattle.program.specs.Program.{terms_of}
use Rattle.bodies.specs.Readings.{reading_of}
use Rattle.steady.proofs.Machine.{steps_between, lifts_as, factor_first, factor_second, factor_none}
use borrow.Author.Rules.{rules}
use Rattle.steady.proofs.rises.factor_rise.Goals as goal

pub returns-then-moves-lifts : goal.returns-then-moves-lifts
returns-then-moves-lifts c =
    let at = reading_of c.args.readings.kept c.args.readings.first.now c.args.readings.second.now (terms_of c.args.body.now) in
    let aim = reading_of c.args.readings.kept c.args.aims.now c.args.readings.second.now (terms_of c.args.body.now) in
    let y : to_z w64 (of_z w64 c.steps_of-steps.result) ≡ c.steps_of-steps.result = search rules in
    let z : to_z w64 (of_z w64 c.read_position-lifts.result) ≡ c.read_position-lifts.result = search rules in
    let e = c.steps_of-steps.ensures ∙ ap pos (steps_between c.args.readings.kept c.args.readings.first.now c.args.aims.now c.args.readings.second.now (terms_of c.args.body.now) 0 c.term-left.ensures) in
    y ∙ e ∙ ap pos (factor_first at aim (lifts_as at aim e (z ∙ c.read_position-lifts.ensures) c.if-moves-lifts.true))

pub returns-then-read_position-ge1 : goal.returns-then-read_position-ge1
returns-then-read_position-ge1 c =
    let at = reading_of c.args.readings.kept c.args.readings.first.now c.args.readings.second.now (terms_of c.args.body.now) in
    let aim = reading_of c.args.readings.kept c.args.aims.now c.args.readings.second.now (terms_of c.args.body.now) in
    let y : to_z w64 (of_z w64 c.steps_of.result) ≡ c.steps_of.result = search rules in
    let z : to_z w64 (of_z w64 c.read_position-lifts.result) ≡ c.read_position-lifts.result = search rules in
    let x : to_z w64 (of_z w64 c.read_position.result) ≡ c.read_position.result = search rules in
    let e = c.steps_of-steps.ensures ∙ ap pos (steps_between c.args.readings.kept c.args.readings.first.now c.args.aims.now c.args.readings.second.now (terms_of c.args.body.now) 0
    c.term-left.ensures) in
    y ∙ c.steps_of.ensures
    ∙ ap pos (steps_between c.args.readings.kept c.args.readings.first.now c.args.aims.now c.args.readings.second.now (terms_of c.args.body.now) 1 c.term-right.ensures
    ∙ factor_second at aim (lifts_as at aim e (z ∙ c.read_position-lifts.ensures) c.if-moves-lifts.false)
    (ap (le_z (pos 1)) (sym (x ∙ c.read_position.ensures)) ∙ c.if-read_position-ge1.true))

pub returns : goal.returns
returns c =
    let at = reading_of c.args.readings.kept c.args.readings.first.now c.args.readings.second.now (terms_of c.args.body.now) in
    let aim = reading_of c.args.readings.kept c.args.aims.now c.args.readings.second.now (terms_of c.args.body.now) in
    let z : to_z w64 (of_z w64 c.read_position-lifts.result) ≡ c.read_position-lifts.result = search rules in
    let x : to_z w64 (of_z w64 c.read_position.result) ≡ c.read_position.result = search rules in
    let e = c.steps_of-steps.ensures ∙ ap pos (steps_between c.args.readings.kept c.args.readings.first.now c.args.aims.now c.args.readings.second.now (terms_of c.args.body.now) 0
    c.term-left.ensures) in
    ap pos (factor_none at aim (lifts_as at aim e (z ∙ c.read_position-lifts.ensures) c.if-moves-lifts.false)
    (ap (le_z (pos 1)) (sym (x ∙ c.read_position.ensures)) ∙ c.if-read_position-ge1.false))
