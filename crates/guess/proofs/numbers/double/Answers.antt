use mathlib.Core.Path.{◌≡◌, ap}
use native.Mathlib.Omega.{arith}
use lib.IntN.{nat_abs}
use mir.Syntax.{w64}
use mir.Val.{to_z, of_z}
use Rattle.bodies.proofs.Sizes.{sum_fits}
use borrow.Author.Rules.{rules}
use Rattle.guess.proofs.numbers.double.Goals as goal

pub overflow_add-result : goal.overflow_add-result
overflow_add-result c = let z : to_z w64 (of_z w64 c.near-a.result) ≡ c.near-a.result = search rules in
    let a = to_z w64 (of_z w64 c.near-a.result) in
    sum_fits a a (omega (arith, ap nat_abs z, c.near-a.ensures))
