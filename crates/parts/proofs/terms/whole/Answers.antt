-- Each field is read from its own bytes.
use mathlib.Core.Path.{◌≡◌, ◌∙◌}
use mir.Syntax.{w64}
use mir.Val.{to_z, of_z}
use borrow.Author.Rules.{rules}
use Rattle.parts.proofs.terms.whole.Goals as goal

pub returns : goal.returns
returns c = let z : to_z w64 (of_z w64 c.signed_at-number.result) ≡ c.signed_at-number.result = search rules in
    rw (z ∙ c.signed_at-number.ensures)
