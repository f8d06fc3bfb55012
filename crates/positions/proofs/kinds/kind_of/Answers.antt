-- The op of a literal; of a plain term it goes by the sign of the number.
use mathlib.Core.Path.{◌≡◌}
use mir.Syntax.{w64}
use mir.Val.{to_z, of_z}
use Rattle.positions.proofs.KindLaws.{by_tests}
use borrow.Author.Rules.{rules}
use Rattle.positions.proofs.kinds.kind_of.Goals as goal

pub returns : goal.returns
returns c = let n : to_z w64 (of_z w64 c.args.t.number) ≡ c.args.t.number = search rules in
    by_tests c.args.kinds.up c.args.kinds.down c.args.t c.chosen.ensures (rw n at c.chosen-plain.ensures)
