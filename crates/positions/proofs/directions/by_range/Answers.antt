-- Each way of the two tests is a case of the definition.
use mathlib.Core.Path.{◌≡◌, ap, ◌∙◌}
use mathlib.Core.Bool.{true, false}
use lib.IntN.{pos}
use lib.Signed.{le_z}
use mir.Syntax.{w64}
use mir.Val.{to_z, of_z}
use borrow.Author.Rules.{rules}
use Rattle.program.specs.Directions.{away}
use Rattle.program.proofs.Pushes.{away_of_mixed}
use Rattle.positions.proofs.directions.by_range.Goals as goal

pub returns-then-low-ge0 : goal.returns-then-low-ge0
returns-then-low-ge0 c = let p : to_z w64 (of_z w64 c.args.x.low) ≡ c.args.x.low = search rules in
    let l : le_z (pos 0) c.args.x.low ≡ true = simp p at c.if-low-ge0.true in
    c.away.ensures ∙ ap (away c.args.h) (simp l)

pub returns-then-high-le0 : goal.returns-then-high-le0
returns-then-high-le0 c = let p : to_z w64 (of_z w64 c.args.x.low) ≡ c.args.x.low = search rules in
    let q : to_z w64 (of_z w64 c.args.x.high) ≡ c.args.x.high = search rules in
    let l : le_z (pos 0) c.args.x.low ≡ false = simp p at c.if-low-ge0.false in
    let h : le_z c.args.x.high (pos 0) ≡ true = simp q at c.if-high-le0.true in
    c.away-then-high-le0.ensures ∙ ap (away c.args.h) (simp (l, h))

pub returns-else-high-le0 : goal.returns-else-high-le0
returns-else-high-le0 c = let p : to_z w64 (of_z w64 c.args.x.low) ≡ c.args.x.low = search rules in
    let q : to_z w64 (of_z w64 c.args.x.high) ≡ c.args.x.high = search rules in
    let l : le_z (pos 0) c.args.x.low ≡ false = simp p at c.if-low-ge0.false in
    let h : le_z c.args.x.high (pos 0) ≡ false = simp q at c.if-high-le0.false in
    away_of_mixed c.args.h ∙ ap (away c.args.h) (simp (l, h))
