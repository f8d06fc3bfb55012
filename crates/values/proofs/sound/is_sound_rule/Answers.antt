-- Neither the header nor the body has a fault.
use mathlib.Core.Path.{◌≡◌, sym, ap, ◌∙◌}
use mir.Syntax.{w64}
use mir.Val.{to_z, of_z}
use Rattle.format.specs.Limits.{max_number}
use Rattle.format.specs.Numbers.{beyond}
use Rattle.program.specs.Refusals.{unknown_form, wrong_head}
use Rattle.faultless.proofs.TermLaws.{says_no}
use Rattle.values.proofs.ValueLaws.{rule_refusal, all_sound}
use borrow.Author.Rules.{rules}
use Rattle.values.proofs.sound.is_sound_rule.Goals as goal

pub returns-then-is_number_beyond : goal.returns-then-is_number_beyond
returns-then-is_number_beyond c = says_no

pub returns-then-is_wrong_head : goal.returns-then-is_wrong_head
returns-then-is_wrong_head c = says_no

pub returns : goal.returns
returns c = let z : to_z w64 (of_z w64 c.header-rule.result.c) ≡ c.header-rule.result.c = search rules in
    λ e.
    let f = c.is_faultless.ensures e in
    rule_refusal _ c.args.value.now 0 c.requires.fact c.header-rule.ensures.form_is c.body-body.ensures (sym f.known ∙ ap unknown_form c.header-rule.ensures.form_is)
    (sym c.if-is_number_beyond.false ∙ c.is_number_beyond.ensures ∙ ap (beyond max_number) (z ∙ c.header-rule.ensures.c_is))
    (sym c.if-is_wrong_head.false ∙ c.is_wrong_head.ensures ∙ ap (wrong_head _) c.header-rule.ensures.head_is) (all_sound f)
