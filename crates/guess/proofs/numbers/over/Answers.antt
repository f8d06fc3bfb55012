use mathlib.Core.Path.{◌≡◌, ap}
use native.Mathlib.Omega.{arith}
use lib.IntN.{nat_abs}
use mir.Syntax.{w64}
use mir.Val.{to_z, of_z}
use Rattle.guess.proofs.Near.{least_one}
use borrow.Author.Rules.{rules}
use Rattle.guess.proofs.numbers.over.Goals as goal

pub over_up-requires : goal.over_up-requires
over_up-requires c = let y : to_z w64 (of_z w64 c.within-m.result) ≡ c.within-m.result = search rules in
    let z : to_z w64 (of_z w64 c.within-n.result) ≡ c.within-n.result = search rules in
    (least_one _ c.if-n-lt1.false, omega (arith, ap nat_abs y, ap nat_abs z, c.within-m.ensures, c.within-n.ensures))
