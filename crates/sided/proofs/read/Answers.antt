-- Two values stand for each variable.
use mathlib.Core.Path.{◌≡◌, ap₂, ◌∙◌}
use Prim.Native.Nat.{ℕ, ◌+◌, ◌*◌}
use lib.IntN.{pos}
use lib.ListN.{get_or}
use mir.Syntax.{w64}
use mir.Val.{to_z, of_z}
use borrow.Author.Rules.{rules}
use Rattle.sided.proofs.read.Goals as goal

pub returns : goal.returns
returns c = let z = get_or c.args.sides.now (2 * c.wide-v.result + c.one_if-side.result) (pos 0) in
    let r : to_z w64 (of_z w64 z) ≡ z = search rules in
    r ∙ ap₂ (λ (x y : ℕ). get_or c.args.sides.now (2 * x + y) (pos 0)) c.wide-v.ensures.0 c.one_if-side.ensures.0
