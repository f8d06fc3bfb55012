-- The constants are the specification's numbers.
use mathlib.Core.Path.{refl}
use Rattle.format.proofs.Format.quoted.Goals as goal

pub returns : goal.returns
returns c = record { max_file = refl; max_variables = refl; max_rules = refl; max_constraints = refl; max_terms = refl; max_number = refl; max_coefficient = refl; max_divisor = refl }
