-- Both ends are read at the variable.
use Prim.Native.Nat.{ℕ}
use mathlib.Core.Path.{◌≡◌, ap, ◌∙◌}
use lib.IntN.{ℤ, pos}
use lib.ListN.{get_or}
use mir.Syntax.{w64}
use mir.Val.{to_z, of_z}
use Rattle.ends.proofs.MaskLaws.{open_range}
use borrow.Author.Rules.{rules}
use Rattle.ends.proofs.masks.is_open.Goals as goal

pub returns : goal.returns
returns c = let l : ℤ = get_or c.args.lows.now c.wide-at.result (pos 0) in
    let h : ℤ = get_or c.args.highs.now c.wide-at.result (pos 0) in
    let z : to_z w64 (of_z w64 l) ≡ l = search rules in
    let y : to_z w64 (of_z w64 h) ≡ h = search rules in
    open_range (z ∙ ap (λ (v : ℕ). get_or c.args.lows.now v (pos 0)) c.wide-at.ensures.0) (y ∙ ap (λ (v : ℕ). get_or c.args.highs.now v (pos 0)) c.wide-at.ensures.0)
