-- A rule of form 8 is a sum over its divisor; all others have none.
use mathlib.Core.Path.{◌≡◌, ◌∙◌}
use mir.Syntax.{w64}
use mir.Val.{to_z, of_z}
use Rattle.evaluation.proofs.Gives.{handed_evaluable, divided_evaluable, amount_as, divided_as}
use borrow.Author.Rules.{rules}
use Rattle.evaluation.proofs.rules.amount_of.Goals as goal

pub divided-requires : goal.divided-requires
divided-requires c = let z : to_z w64 (of_z w64 c.header-rule.result.c) ≡ c.header-rule.result.c = search rules in
    let d : to_z w64 (of_z w64 c.divisor-divisor.result) ≡ c.divisor-divisor.result = search rules in
    record { evaluable_as = rw (z, d) (divided_evaluable c.args.value.now c.header-rule.ensures c.body-body.ensures c.if-rule-eq8.true c.divisor-divisor.ensures c.requires.evaluable); small = c.requires.small }

pub returns-then-rule-eq8 : goal.returns-then-rule-eq8
returns-then-rule-eq8 c = let z : to_z w64 (of_z w64 c.header-rule.result.c) ≡ c.header-rule.result.c = search rules in
    let d : to_z w64 (of_z w64 c.divisor-divisor.result) ≡ c.divisor-divisor.result = search rules in
    let r : to_z w64 (of_z w64 c.divided.result) ≡ c.divided.result = search rules in
    divided_as c.args.value.now c.header-rule.ensures c.body-body.ensures c.if-rule-eq8.true c.divisor-divisor.ensures
    c.args.readings.kept c.args.readings.first.now c.args.readings.second.now (r ∙ (rw (z, d) at c.divided.ensures))

pub amount-requires : goal.amount-requires
amount-requires c = record { evaluable_as = handed_evaluable c.args.value.now c.header-rule.ensures c.body-body.ensures c.if-rule-eq8.false c.requires.evaluable; small = c.requires.small }

pub returns : goal.returns
returns c = let z : to_z w64 (of_z w64 c.amount.result) ≡ c.amount.result = search rules in
    amount_as c.args.value.now c.header-rule.ensures c.body-body.ensures c.if-rule-eq8.false
    c.args.readings.kept c.args.readings.first.now c.args.readings.second.now (z ∙ c.amount.ensures)
