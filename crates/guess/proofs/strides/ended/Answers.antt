use mathlib.Core.Path.{◌≡◌}
use mir.Syntax.{w64}
use mir.Val.{to_z, of_z}
use Rattle.guess.proofs.Near.{least_one}
use borrow.Author.Rules.{rules}
use Rattle.guess.proofs.strides.ended.Goals as goal

pub returns : goal.returns
returns c = let z : to_z w64 (of_z w64 c.near-a.result) ≡ c.near-a.result = search rules in
    (rw z c.near-a.ensures, least_one _ c.if-a-lt1.false)
