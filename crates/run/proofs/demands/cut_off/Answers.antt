-- What comes after the stop, in the head's order, is cut off there.
use mathlib.Core.Path.{◌≡◌}
use mir.Syntax.{w64}
use mir.Val.{to_z, of_z}
use Rattle.run.proofs.RunLaws.{nothing_cut, value_past, value_stays}
use borrow.Author.Rules.{rules}
use Rattle.run.proofs.demands.cut_off.Goals as goal

pub returns-in_default : goal.returns-in_default
returns-in_default c = nothing_cut c.args.x _ c.in_default.is

pub returns-then-is_before : goal.returns-then-is_before
returns-then-is_before c = let z : to_z w64 (of_z w64 c.in-Some.a) ≡ c.in-Some.a = search rules in
    let y : to_z w64 (of_z w64 c.args.stop) ≡ c.args.stop = search rules in
    rw y (value_past c.args.x c.args.stop c.in-Some.a c.in-Some.is (simp (z, y) at c.is_before.ensures) c.if-is_before.true)

pub returns-else-is_before : goal.returns-else-is_before
returns-else-is_before c = let z : to_z w64 (of_z w64 c.in-Some.a) ≡ c.in-Some.a = search rules in
    let y : to_z w64 (of_z w64 c.args.stop) ≡ c.args.stop = search rules in
    rw z (value_stays c.args.x c.args.stop c.in-Some.a c.in-Some.is (simp (z, y) at c.is_before.ensures) c.if-is_before.false)
