-- Two values stand for each variable, of which one is stored.
use mathlib.Core.Path.{◌≡◌, ap, ap₂, ◌∙◌}
use Prim.Native.Nat.{ℕ, ◌+◌, ◌*◌}
use lib.ListN.{set, length-set}
use mir.Syntax.{w64}
use mir.Val.{to_z, of_z}
use borrow.Author.Rules.{rules}
use Rattle.sided.proofs.write.Goals as goal

pub returns : goal.returns
returns c = let y : to_z w64 (of_z w64 c.args.a) ≡ c.args.a = search rules in record { sides_len = simp length-set c.requires; sides_after = ap₂ (λ (k n : ℕ). set c.args.sides.now (2 * k + n) (to_z w64 (of_z w64 c.args.a))) c.wide-v.ensures.0 c.one_if-side.ensures.0 ∙ ap (set c.args.sides.now _) y }
