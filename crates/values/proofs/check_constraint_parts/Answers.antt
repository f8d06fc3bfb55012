-- The faults of the header and of the body, in order.
use mathlib.Core.Path.{◌≡◌, ap, ap₂, ◌∙◌}
use mathlib.Core.Bool.{false}
use mir.Syntax.{w64}
use mir.Val.{to_z, of_z}
use Rattle.format.specs.Limits.{max_number}
use Rattle.format.specs.Numbers.{beyond}
use Rattle.program.specs.Refusals.{wrong_constraint, body_form}
use Rattle.values.proofs.ValueLaws.{own_of, in_order_is, constraint_refusal}
use borrow.Author.Rules.{rules}
use Rattle.values.proofs.check_constraint_parts.Goals as goal

pub returns : goal.returns
returns c = let z : to_z w64 (of_z w64 c.header-constraint.result.c) ≡ c.header-constraint.result.c = search rules in
    constraint_refusal _ c.args.value.now _ (c.body_form-form.ensures ∙ ap body_form c.header-constraint.ensures.0) c.body-body.ensures
    (c.is_wrong_constraint.ensures ∙ ap₂ wrong_constraint c.header-constraint.ensures.0 (z ∙ c.header-constraint.ensures.1)) (c.is_number_beyond.ensures ∙ ap (beyond max_number) (z ∙ c.header-constraint.ensures.1))
    (c.first.ensures ∙ in_order_is _ c.body_form-form.result c.body-body.result.now _ (own_of c.is_wrong_constraint.result c.is_number_beyond.result false) _ false _
    c.body_faults.ensures c.with-all.ensures c.is_wrong_count.ensures)
