-- The faults of the header and of the body, in order; there is no divisor.
use mathlib.Core.Path.{◌≡◌, ap, ◌∙◌}
use mathlib.Core.Bool.{false}
use mir.Syntax.{w64}
use mir.Val.{to_z, of_z}
use Rattle.format.specs.Limits.{max_number}
use Rattle.format.specs.Numbers.{beyond}
use Rattle.program.specs.Refusals.{unknown_form, wrong_head}
use Rattle.values.proofs.ValueLaws.{own_of, in_order_is, rule_refusal}
use borrow.Author.Rules.{rules}
use Rattle.values.proofs.check_rule_parts.Goals as goal

pub returns : goal.returns
returns c = let z : to_z w64 (of_z w64 c.header-rule.result.c) ≡ c.header-rule.result.c = search rules in
    rule_refusal _ c.args.value.now _ c.requires.fact c.header-rule.ensures.form_is c.body-body.ensures (c.is_unknown_form.ensures ∙ ap unknown_form c.header-rule.ensures.form_is)
    (c.is_number_beyond.ensures ∙ ap (beyond max_number) (z ∙ c.header-rule.ensures.c_is)) (c.is_wrong_head.ensures ∙ ap (wrong_head _) c.header-rule.ensures.head_is)
    (c.first.ensures ∙ in_order_is _ c.header-rule.result.form c.body-body.result.now _ (own_of c.is_unknown_form.result c.is_number_beyond.result c.is_wrong_head.result) _ false _
    c.body_faults.ensures c.with-all.ensures c.is_wrong_count.ensures)
