-- Both tests together are the table's row.
use mathlib.Core.Path.{◌≡◌}
use mir.Syntax.{w64}
use mir.Val.{to_z, of_z}
use mir.Facts.{to_z-of_z}
use borrow.Author.Rules.{rules}
use Rattle.bodies.proofs.Sizes.{literal_is}
use Rattle.bodies.proofs.numbers.holds.Goals as goal

pub returns : goal.returns
returns c = let n : to_z w64 (of_z w64 c.args.t.number) ≡ c.args.t.number = search rules in
    rw (n, to_z-of_z c.ranges.value) (literal_is c.args.t c.args.value)
