-- A value past the far end changes nothing; another is stored.
use mathlib.Core.Path.{◌≡◌, refl, ap₂, ◌∙◌}
use lib.ListN.{set, length-set}
use mir.Syntax.{w64}
use mir.Val.{to_z, of_z}
use Rattle.run.proofs.RaiseLaws.{past_far, not_past_far}
use borrow.Author.Rules.{rules}
use Rattle.run.proofs.solve.store.Goals as goal

pub returns-then-is_before : goal.returns-then-is_before
returns-then-is_before c = let z : to_z w64 (of_z w64 c.far.result) ≡ c.far.result = search rules in
    let y : to_z w64 (of_z w64 c.args.a) ≡ c.args.a = search rules in
    let e = simp (z ∙ c.far.ensures, y) at c.is_before.ensures in
    record { model_len = c.requires; stored = (past_far c.args.x c.args.a e c.if-is_before.true, refl) }

pub returns : goal.returns
returns c = let z : to_z w64 (of_z w64 c.far.result) ≡ c.far.result = search rules in
    let y : to_z w64 (of_z w64 c.args.a) ≡ c.args.a = search rules in
    let t = simp (z ∙ c.far.ensures, y) at c.is_before.ensures in
    record { model_len = simp length-set c.requires; stored = (not_past_far c.args.x c.args.a t c.if-is_before.false, ap₂ (set c.args.model.now) c.wide.ensures.0 y) }
