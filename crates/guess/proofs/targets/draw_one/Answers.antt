use mathlib.Core.Path.{◌≡◌, ap}
use lib.IntN.{nat_abs}
use mir.Syntax.{w64}
use mir.Val.{to_z, of_z}
use Rattle.program.specs.Readings.{valued}
use native.Mathlib.Omega.{arith}
use borrow.Author.Rules.{rules}
use Rattle.guess.proofs.targets.draw_one.Goals as goal

pub further-requires : goal.further-requires
further-requires c = let f : to_z w64 (of_z w64 (valued c.args.model.now c.wide-v.result)) ≡ valued c.args.model.now c.wide-v.result = search rules in
    let g : to_z w64 (of_z w64 c.near.result) ≡ c.near.result = search rules in
    omega (arith, ap nat_abs f, ap nat_abs g, c.near.ensures, c.requires.variables_in_bounds.1 c.wide-v.result)
