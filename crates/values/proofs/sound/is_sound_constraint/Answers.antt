-- Neither the header nor the body has a fault.
use mathlib.Core.Path.{◌≡◌, sym, ap, ap₂, ◌∙◌}
use mir.Syntax.{w64}
use mir.Val.{to_z, of_z}
use Rattle.format.specs.Limits.{max_number}
use Rattle.format.specs.Numbers.{beyond}
use Rattle.program.specs.Refusals.{wrong_constraint, body_form}
use Rattle.faultless.proofs.TermLaws.{says_no}
use Rattle.values.proofs.ValueLaws.{constraint_refusal, all_sound}
use borrow.Author.Rules.{rules}
use Rattle.values.proofs.sound.is_sound_constraint.Goals as goal

pub returns-then-is_number_beyond : goal.returns-then-is_number_beyond
returns-then-is_number_beyond c = says_no

pub returns-then-is_wrong_constraint : goal.returns-then-is_wrong_constraint
returns-then-is_wrong_constraint c = says_no

pub returns : goal.returns
returns c = let z : to_z w64 (of_z w64 c.header-constraint.result.c) ≡ c.header-constraint.result.c = search rules in
    λ e.
    constraint_refusal _ c.args.value.now 0 (c.body_form.ensures ∙ ap body_form c.header-constraint.ensures.0) c.body-body.ensures
    (sym c.if-is_wrong_constraint.false ∙ c.is_wrong_constraint.ensures ∙ ap₂ wrong_constraint c.header-constraint.ensures.0 (z ∙ c.header-constraint.ensures.1))
    (sym c.if-is_number_beyond.false ∙ c.is_number_beyond.ensures ∙ ap (beyond max_number) (z ∙ c.header-constraint.ensures.1)) (all_sound (c.is_faultless.ensures e))
