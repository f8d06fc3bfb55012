-- Where nothing is given the aim stays; a value is held against the target, and then against the aim.
use mathlib.Core.Path.{◌≡◌, ◌∙◌}
use mir.Facts.{to_z-of_z}
use mir.Syntax.{w64}
use mir.Val.{to_z, of_z}
use Rattle.targets.proofs.LiftLaws.{nothing_lifts, reached_lifts, later_lifts}
use borrow.Author.Rules.{rules}
use Rattle.targets.proofs.lifting.lift_to.Goals as goal

pub returns-in_default : goal.returns-in_default
returns-in_default c = to_z-of_z c.ranges.aim ∙ nothing_lifts c.args.x c.args.aim c.args.target c.in_default.is

pub returns-then-not-is_before : goal.returns-then-not-is_before
returns-then-not-is_before c = let z : to_z w64 (of_z w64 c.in-Some.b) ≡ c.in-Some.b = search rules in
    to_z-of_z c.ranges.target
    ∙ reached_lifts c.args.x c.args.aim c.args.target c.in-Some.b c.in-Some.is (simp (z, to_z-of_z c.ranges.target) at c.is_before.ensures) c.if-not-is_before.true-raw

pub returns : goal.returns
returns c = let z : to_z w64 (of_z w64 c.in-Some.b) ≡ c.in-Some.b = search rules in
    let r : to_z w64 (of_z w64 c.later.result) ≡ c.later.result = search rules in
    r ∙ later_lifts c.args.x c.args.aim c.args.target c.in-Some.b c.in-Some.is (simp (z, to_z-of_z c.ranges.target) at c.is_before.ensures) c.if-not-is_before.false-raw
    (simp (z, to_z-of_z c.ranges.aim) at c.later.ensures)
