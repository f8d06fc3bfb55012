-- A target that is not open leaves the value; another is drawn back.
use mathlib.Core.Path.{◌≡◌, sym, ◌∙◌}
use mir.Syntax.{w64}
use mir.Val.{to_z, of_z}
use mir.Facts.{to_z-of_z}
use Rattle.targets.proofs.AimLaws.{closed_aim, open_aim, open_after}
use borrow.Author.Rules.{rules}
use Rattle.targets.proofs.aims.first_aim.Goals as goal

pub returns-then-not-is_open : goal.returns-then-not-is_open
returns-then-not-is_open c = let o = simp (to_z-of_z c.ranges.stop, to_z-of_z c.ranges.value, to_z-of_z c.ranges.target) at c.is_open.ensures in
    to_z-of_z c.ranges.value ∙ closed_aim c.args.x c.args.cut c.args.stop c.args.value c.args.target _ (sym o ∙ c.if-not-is_open.true)

pub draw-requires : goal.draw-requires
draw-requires c = let o = simp (to_z-of_z c.ranges.stop, to_z-of_z c.ranges.value, to_z-of_z c.ranges.target) at c.is_open.ensures in
    simp (to_z-of_z c.ranges.value, to_z-of_z c.ranges.target, to_z-of_z c.ranges.stride)
    (c.requires.0, c.requires.1, c.requires.2, open_after c.args.x c.args.cut c.args.stop c.args.value c.args.target (sym o ∙ c.if-not-is_open.false))

pub returns : goal.returns
returns c = let o = simp (to_z-of_z c.ranges.stop, to_z-of_z c.ranges.value, to_z-of_z c.ranges.target) at c.is_open.ensures in
    let z : to_z w64 (of_z w64 c.draw.result) ≡ c.draw.result = search rules in
    z ∙ (simp (to_z-of_z c.ranges.value, to_z-of_z c.ranges.target, to_z-of_z c.ranges.stride) at c.draw.ensures)
    ∙ open_aim c.args.x c.args.cut c.args.stop c.args.value c.args.target _ (sym o ∙ c.if-not-is_open.false)
