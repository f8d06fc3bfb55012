-- One rule after the other: each stands where the one before it ends, and the set takes in the variable of its mixed position.
use mathlib.Core.Path.{ap, ◌∙◌}
use native.Mathlib.Omega.{arith}
use Rattle.program.specs.Program.{variables_at}
use Rattle.program.proofs.Conditions.{any_none, any_more}
use Rattle.validity.specs.Marks.{acts_on}
use Rattle.validity.proofs.RuleLaws.{variables_inside, first_rule, next_rule, rule_inside, ready_at, sizes_at, field_rule, acting_all}
use Rattle.validity.proofs.rules.acting_variables.Goals as goal

pub overflow_mul-at : goal.overflow_mul-at
overflow_mul-at c = omega (arith, variables_inside c.requires)

pub loop-i-init : goal.loop-i-init
loop-i-init c = (first_rule c.requires, λ v. c.empty-found.ensures v ∙ any_none _)

pub value_at-value-requires : goal.value_at-value-requires
value_at-value-requires c = rule_inside c.requires _ (omega arith) c.loop-i.invariant.0

pub take_acting-found-requires : goal.take_acting-found-requires
take_acting-found-requires c = record { ready = ready_at c.requires _ (omega arith) c.loop-i.invariant.0 c.value_at-value.ensures; only_sizes = sizes_at c.requires _ (omega arith) c.loop-i.invariant.0 c.value_at-value.ensures }

pub next_at-at-requires : goal.next_at-at-requires
next_at-at-requires c = rule_inside c.requires _ (omega arith) c.loop-i.invariant.0

pub loop-i-preserved : goal.loop-i-preserved
loop-i-preserved c = let e = field_rule _ _ _ c.loop-i.invariant.0 c.value_at-value.ensures in (
  next_rule _ _ _ c.loop-i.invariant.0 c.next_at-at.ensures,
  λ v. c.take_acting-found.ensures v ∙ any_more c.loop-i.i _ _ _ (c.loop-i.invariant.1 v) (ap (λ r. acts_on (variables_at c.args.file.now c.args.counts.variables) r v) e),
)

pub returns : goal.returns
returns c = acting_all _ _ (omega arith) c.loop-i.invariant.1
