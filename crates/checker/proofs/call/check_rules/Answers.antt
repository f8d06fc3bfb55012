-- The first rule that is not met is the answer, else the constraints decide.
use mathlib.Core.Path.{refl}
use Rattle.program.specs.Readings.{valued}
use Rattle.verdict.specs.Checks.{rule_unmet}
use Rattle.ascent.proofs.LevelLaws.{zero_sides}
use Rattle.checker.proofs.MetLaws.{rules_unmet, rules_all}
use Rattle.checker.proofs.call.check_rules.Goals as goal

pub first_unmet_rule-rules-requires : goal.first_unmet_rule-rules-requires
first_unmet_rule-rules-requires c = record { accepted_as = c.requires.accepted_as; level_past = (zero_sides c.requires.accepted_as (valued c.args.values.now) c.requires.within, refl); within = c.requires.within }

pub check_constraints-requires : goal.check_constraints-requires
check_constraints-requires c = let θ = valued c.args.values.now in
    record { accepted_as = c.requires.accepted_as; level_past = c.first_unmet_rule-rules.ensures.level_past_2; start_value = λ P x. (rules_all c.args.file.now P θ (c.first_unmet_rule-rules.ensures.rules_are P x) c.in-Met.is).0; within = c.requires.within; rule_met = λ P x. (rules_all c.args.file.now P θ (c.first_unmet_rule-rules.ensures.rules_are P x) c.in-Met.is).1; variables_in_bounds = c.requires.variables_in_bounds }

pub returns-in-Unmet : goal.returns-in-Unmet
returns-in-Unmet c = λ P x. rule_unmet (c.requires.within P x) (rules_unmet c.args.file.now P (valued c.args.values.now) (c.first_unmet_rule-rules.ensures.rules_are P x) c.in-Unmet.is)
