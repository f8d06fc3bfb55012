-- The first constraint that is not met is the answer; where all are met, the comparison answers.
use Rattle.meaning.specs.Stable.{ConstraintMet}
use Rattle.verdict.specs.Checks.{constraint_unmet}
use Rattle.checker.proofs.CheckLaws.{small_in}
use Rattle.checker.proofs.MetLaws.{unmet_at, unmet_none}
use Rattle.program.specs.Readings.{valued}
use Rattle.checker.proofs.call.check_constraints.Goals as goal

pub first_unmet_constraint-unmet-requires : goal.first_unmet_constraint-unmet-requires
first_unmet_constraint-unmet-requires c = record { accepted_as = c.requires.accepted_as; start_value = c.requires.start_value; small = small_in c.args.file.now c.args.counts c.requires.accepted_as c.args.values.now c.requires.within }

pub compare-requires : goal.compare-requires
compare-requires c = record {
  accepted_as = c.requires.accepted_as;
  level_past = c.requires.level_past;
  meets = λ P x. record {
    ranges = c.requires.within P x;
    rules = c.requires.rule_met P x;
    constraints = unmet_none (ConstraintMet P (valued c.args.values.now)) (c.first_unmet_constraint-unmet.ensures P x) c.in-None.is;
  };
  variables_in_bounds = c.requires.variables_in_bounds;
}

pub returns-in-Some : goal.returns-in-Some
returns-in-Some c = λ P x. constraint_unmet (c.requires.within P x) (c.requires.rule_met P x)
    (unmet_at (ConstraintMet P (valued c.args.values.now)) (c.first_unmet_constraint-unmet.ensures P x) c.in-Some.is)
