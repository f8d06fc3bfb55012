use mathlib.Core.Path.{ap, ◌∙◌}
use native.Mathlib.Omega.{arith}
use lib.ListN.{length, length-drop}
use Rattle.flat.specs.Flat.{inners_in}
use Rattle.treechecks.proofs.TreeValues.{value_adds, part_rest}
use Rattle.treechecks.proofs.added_by.Goals as goal

pub returns : goal.returns
returns c = record { value = λ t e. c.inners.ensures.0 ∙ ap inners_in (part_rest 3 c.args.value.now) ∙ value_adds c.args.value.now t e; upper_bound = omega (arith, c.inners.ensures.1, ap length (part_rest 3 c.args.value.now), length-drop 3 c.args.value.now) }
