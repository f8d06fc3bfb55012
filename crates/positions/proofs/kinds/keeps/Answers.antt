-- Both tests are those of the definition.
use mathlib.Core.Path.{ap}
use mathlib.Core.Bool.{Bool, ◌&&◌}
use lib.Dec.{eqb}
use Rattle.positions.proofs.kinds.keeps.Goals as goal

pub returns : goal.returns
returns c = ap (λ (f : Bool). eqb c.args.x.kind c.args.kind && f) c.is_founded-founded.ensures
