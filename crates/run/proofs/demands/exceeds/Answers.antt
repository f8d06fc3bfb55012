-- More is what comes after, in the head's order.
use mathlib.Core.Path.{◌≡◌}
use mir.Syntax.{w64}
use mir.Val.{to_z, of_z}
use Rattle.run.proofs.RunLaws.{nothing_given, value_more, value_enough}
use borrow.Author.Rules.{rules}
use Rattle.run.proofs.demands.exceeds.Goals as goal

pub returns-in_default : goal.returns-in_default
returns-in_default c = nothing_given c.args.x _ c.in_default.is

pub returns-then-is_before : goal.returns-then-is_before
returns-then-is_before c = let z : to_z w64 (of_z w64 c.in-Some.a) ≡ c.in-Some.a = search rules in
    let y : to_z w64 (of_z w64 c.args.value) ≡ c.args.value = search rules in
    rw z (value_more c.args.x c.args.value c.in-Some.a c.in-Some.is (simp (z, y) at c.is_before.ensures) c.if-is_before.true)

pub returns-else-is_before : goal.returns-else-is_before
returns-else-is_before c = let z : to_z w64 (of_z w64 c.in-Some.a) ≡ c.in-Some.a = search rules in
    let y : to_z w64 (of_z w64 c.args.value) ≡ c.args.value = search rules in
    value_enough c.args.x c.args.value c.in-Some.a c.in-Some.is (simp (z, y) at c.is_before.ensures) c.if-is_before.false
