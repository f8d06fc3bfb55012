use mathlib.Core.Path.{refl}
use Rattle.validity.proofs.ComponentLaws.{values_none}
use Rattle.guess.proofs.levels.level.Goals as goal

pub part_all-requires : goal.part_all-requires
part_all-requires c = record { variables_in_bounds = c.requires.variables_in_bounds.0; low_len = (refl, values_none 256, refl, values_none 256) }
