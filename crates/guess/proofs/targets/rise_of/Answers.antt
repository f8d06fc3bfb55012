use mathlib.Core.Path.{◌≡◌, ap}
use lib.IntN.{nat_abs}
use mir.Syntax.{w64}
use mir.Val.{to_z, of_z}
use Rattle.program.specs.Readings.{valued}
use native.Mathlib.Omega.{arith}
use borrow.Author.Rules.{rules}
use Rattle.guess.proofs.targets.rise_of.Goals as goal

pub distance-requires : goal.distance-requires
distance-requires c = let f : to_z w64 (of_z w64 (valued c.args.model.now c.wide-v.result)) ≡ valued c.args.model.now c.wide-v.result = search rules in
    let a : to_z w64 (of_z w64 (valued c.args.target.now c.wide-v.result)) ≡ valued c.args.target.now c.wide-v.result = search rules in
    omega (arith, ap nat_abs f, ap nat_abs a, c.requires.0 c.wide-v.result, c.requires.1 c.wide-v.result)
