-- Each field is read from its own bytes.
use mathlib.Core.Path.{◌≡◌, ◌∙◌}
use mir.Syntax.{w64}
use mir.Val.{to_z, of_z}
use borrow.Author.Rules.{rules}
use Rattle.parts.proofs.variables.variable_of.Goals as goal

pub returns : goal.returns
returns c = let p : to_z w64 (of_z w64 c.signed_at-low.result) ≡ c.signed_at-low.result = search rules in
    let q : to_z w64 (of_z w64 c.signed_at-high.result) ≡ c.signed_at-high.result = search rules in
    rw (p ∙ c.signed_at-low.ensures, q ∙ c.signed_at-high.ensures)
