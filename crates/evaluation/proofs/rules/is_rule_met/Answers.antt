-- By the rule's form and body.
use native.Mathlib.Omega.{arith}
use Rattle.evaluation.proofs.Gives.{handed_plain, met_as}
use Rattle.evaluation.proofs.rules.is_rule_met.Goals as goal

pub is_met-requires : goal.is_met-requires
is_met-requires c = record { body_len_bound = omega (arith, c.requires.evaluable.few, c.body.ensures.many); plain = handed_plain c.args.value.now c.header-rule.ensures c.body.ensures c.requires.evaluable }

pub returns : goal.returns
returns c = met_as c.args.value.now c.header-rule.ensures c.body.ensures c.args.readings.kept c.args.readings.first.now c.args.readings.second.now c.is_met.ensures
