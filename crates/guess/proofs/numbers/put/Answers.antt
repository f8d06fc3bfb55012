use mathlib.Core.Path.{◌≡◌}
use native.Mathlib.Omega.{arith}
use mir.Syntax.{w64}
use mir.Val.{to_z, of_z}
use Rattle.idleness.proofs.MostLaws.{set_small}
use borrow.Author.Rules.{rules}
use Rattle.guess.proofs.numbers.put.Goals as goal

pub returns : goal.returns
returns c = let z : to_z w64 (of_z w64 c.near-n.result) ≡ c.near-n.result = search rules in
    (search rules, rw z (set_small c.args.values.now _ _ (omega (arith, c.requires.0, c.requires.1)) c.requires.2 c.near-n.ensures))
