-- The low of the variable that is read.
use mathlib.Core.Path.{◌≡◌}
use mir.Syntax.{w64}
use mir.Val.{to_z, of_z}
use Rattle.faultless.proofs.BodyLaws.{low_is}
use borrow.Author.Rules.{rules}
use Rattle.faultless.proofs.is_low_fine.Goals as goal

pub returns : goal.returns
returns c = let z : to_z w64 (of_z w64 c.variable-v.result.low) ≡ c.variable-v.result.low = search rules in
    λ e. low_is _ _ (c.variable-v.ensures c.args.variables c.requires.1) (rw z at e)
