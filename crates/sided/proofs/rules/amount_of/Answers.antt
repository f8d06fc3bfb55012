-- A rule of form 8 is a sum over its divisor; all others have none.
use mathlib.Core.Path.{◌≡◌, ◌∙◌}
use mir.Syntax.{w64}
use mir.Val.{to_z, of_z}
use Rattle.sided.proofs.Amounts.{handed_whole, amount_whole, amount_over, over_fits}
use borrow.Author.Rules.{rules}
use Rattle.sided.proofs.rules.amount_of.Goals as goal

pub amount-a-requires : goal.amount-a-requires
amount-a-requires c = let z : to_z w64 (of_z w64 c.header-rule.result.c) ≡ c.header-rule.result.c = search rules in
    record { evaluable_as = rw z (handed_whole c.args.value.now c.body-body.ensures c.header-rule.ensures c.read_as-form.ensures c.requires.evaluable); small = c.requires.small }

pub over_up-requires : goal.over_up-requires
over_up-requires c = let z : to_z w64 (of_z w64 c.header-rule.result.c) ≡ c.header-rule.result.c = search rules in
    let v : to_z w64 (of_z w64 c.amount-a.result) ≡ c.amount-a.result = search rules in
    let d : to_z w64 (of_z w64 c.divisor.result) ≡ c.divisor.result = search rules in
    over_fits c.args.value.now c.body-body.ensures c.header-rule.ensures c.read_as-form.ensures c.requires.evaluable c.args.sides.now c.args.side (v ∙ (rw z at c.amount-a.ensures)) c.if-rule-eq8.true (d ∙ c.divisor.ensures) c.requires.small

pub returns-then-rule-eq8 : goal.returns-then-rule-eq8
returns-then-rule-eq8 c = let z : to_z w64 (of_z w64 c.header-rule.result.c) ≡ c.header-rule.result.c = search rules in
    let v : to_z w64 (of_z w64 c.amount-a.result) ≡ c.amount-a.result = search rules in
    let d : to_z w64 (of_z w64 c.divisor.result) ≡ c.divisor.result = search rules in
    let r : to_z w64 (of_z w64 c.over_up.result) ≡ c.over_up.result = search rules in
    r ∙ c.over_up.ensures
    ∙ amount_over c.args.value.now c.body-body.ensures c.header-rule.ensures c.read_as-form.ensures c.requires.evaluable c.args.sides.now c.args.side (v ∙ (rw z at c.amount-a.ensures)) c.if-rule-eq8.true (d ∙ c.divisor.ensures)

pub returns : goal.returns
returns c = let z : to_z w64 (of_z w64 c.header-rule.result.c) ≡ c.header-rule.result.c = search rules in
    let v : to_z w64 (of_z w64 c.amount-a.result) ≡ c.amount-a.result = search rules in
    amount_whole c.args.value.now c.body-body.ensures c.header-rule.ensures c.read_as-form.ensures c.requires.evaluable c.args.sides.now c.args.side (v ∙ (rw z at c.amount-a.ensures)) c.if-rule-eq8.false
