-- What is given comes after the starting end, or it does not.
use mathlib.Core.Path.{◌≡◌}
use mir.Syntax.{w64}
use mir.Val.{to_z, of_z}
use borrow.Author.Rules.{rules}
use Rattle.idleness.proofs.MostLaws.{none_given, value_given}
use Rattle.idleness.proofs.is_no_more.Goals as goal

pub returns-in_default : goal.returns-in_default
returns-in_default c = none_given c.args.x c.in_default.is

pub returns : goal.returns
returns c = let z : to_z w64 (of_z w64 c.in-Some.a) ≡ c.in-Some.a = search rules in
    let y : to_z w64 (of_z w64 c.start.result) ≡ c.start.result = search rules in
    value_given c.args.x c.in-Some.a c.in-Some.is c.start.ensures (simp (z, y) at c.is_before.ensures)
