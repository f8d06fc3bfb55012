-- The value at the place is that of the rule.
use mathlib.Core.Path.{refl, ap, ◌∙◌}
use mir.Facts.{to_z-of_z}
use Rattle.evaluation.specs.Past.{past_only}
use Rattle.run.proofs.RunLaws.{head_lies, here_evaluable, here_headed, here_as}
use Rattle.run.proofs.demands.demand_past.Goals as goal

pub value_at-requires : goal.value_at-requires
value_at-requires c = (head_lies c.requires.some_rule.here).0

pub gives_past-requires : goal.gives_past-requires
gives_past-requires c = record { evaluable = here_evaluable c.requires.some_rule.here c.value_at.ensures; rule_header_in_bounds = here_headed c.requires.some_rule.here c.value_at.ensures; small = c.requires.small }

pub returns : goal.returns
returns c = λ P i h. (rw (to_z-of_z c.ranges.z) at c.gives_past.ensures)
    ∙ ap (past_only c.args.x c.args.z) (here_as h c.value_at.ensures c.args.mask c.args.model.now c.args.others.now refl)
