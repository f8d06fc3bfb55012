-- The machine's test is the variable's order, read the one way or the other.
use mathlib.Core.Path.{sym, ◌∙◌}
use lib.Signed.{lt_z}
use mir.Facts.{to_z-of_z}
use Rattle.program.proofs.Variables.{swaps_not, swaps_so, before_is}
use Rattle.program.proofs.Variable.is_before.Goals as goal

pub returns-then-is_from_above : goal.returns-then-is_from_above
returns-then-is_from_above c = simp (to_z-of_z c.ranges.a, to_z-of_z c.ranges.b)
    (swaps_so c.args.self (lt_z c.args.a c.args.b) (lt_z c.args.b c.args.a) (sym c.is_from_above.ensures ∙ c.if-is_from_above.true)
    ∙ before_is c.args.self c.args.a c.args.b)

pub returns-else-is_from_above : goal.returns-else-is_from_above
returns-else-is_from_above c = simp (to_z-of_z c.ranges.a, to_z-of_z c.ranges.b)
    (swaps_not c.args.self (lt_z c.args.a c.args.b) (lt_z c.args.b c.args.a) (sym c.is_from_above.ensures ∙ c.if-is_from_above.false)
    ∙ before_is c.args.self c.args.a c.args.b)
