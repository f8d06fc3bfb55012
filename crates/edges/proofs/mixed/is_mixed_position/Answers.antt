-- The direction is that of the rule.
use mathlib.Core.Path.{ap, ◌∙◌}
use Rattle.program.specs.Directions.{is_mixed}
use Rattle.edges.proofs.mixed.is_mixed_position.Goals as goal

pub returns : goal.returns
returns c = c.is_mixed.ensures ∙ ap is_mixed c.position_at-p.ensures.direction_is
