-- Both tests are those of the definition.
use mathlib.Core.Path.{ap, ap₂, ◌∙◌}
use mathlib.Core.Bool.{◌&&◌}
use Rattle.program.specs.Directions.{is_rising}
use Rattle.positions.proofs.directions.is_kept.Goals as goal

pub returns : goal.returns
returns c = ap₂ ◌&&◌ (c.is_rising-more.ensures ∙ ap is_rising c.away-away.ensures) c.is_founded-founded.ensures
