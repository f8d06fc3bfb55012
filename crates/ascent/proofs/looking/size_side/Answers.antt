-- Each way of the two tests is a case of the definition.
use mathlib.Core.Path.{◌≡◌, ap}
use mathlib.Core.Bool.{true, false, not}
use lib.IntN.{pos}
use lib.Signed.{le_z}
use mir.Syntax.{w64}
use mir.Val.{to_z, of_z}
use borrow.Author.Rules.{rules}
use Rattle.sided.specs.Reached.{size_side}
use Rattle.ascent.proofs.looking.size_side.Goals as goal

pub returns-then-x-ge0 : goal.returns-then-x-ge0
unfolding size_side
returns-then-x-ge0 c = let p : to_z w64 (of_z w64 c.args.x.low) ≡ c.args.x.low = search rules in
    let l : le_z (pos 0) c.args.x.low ≡ true = simp p at c.if-x-ge0.true in
    simp l

pub returns-then-x-le0 : goal.returns-then-x-le0
unfolding size_side
returns-then-x-le0 c = let p : to_z w64 (of_z w64 c.args.x.low) ≡ c.args.x.low = search rules in
    let q : to_z w64 (of_z w64 c.args.x.high) ≡ c.args.x.high = search rules in
    let l : le_z (pos 0) c.args.x.low ≡ false = simp p at c.if-x-ge0.false in
    let h : le_z c.args.x.high (pos 0) ≡ true = simp q at c.if-x-le0.true in
    simp (l, h)

pub returns : goal.returns
unfolding size_side
returns c = let p : to_z w64 (of_z w64 c.args.x.low) ≡ c.args.x.low = search rules in
    let q : to_z w64 (of_z w64 c.args.x.high) ≡ c.args.x.high = search rules in
    let l : le_z (pos 0) c.args.x.low ≡ false = simp p at c.if-x-ge0.false in
    let h : le_z c.args.x.high (pos 0) ≡ false = simp q at c.if-x-le0.false in
    simp (l, h) (ap not c.is_from_above.ensures)
