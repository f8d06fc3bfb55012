use mathlib.Core.Path.{◌≡◌, ap}
use native.Mathlib.Omega.{arith}
use lib.IntN.{nat_abs}
use mir.Syntax.{w64}
use mir.Val.{to_z, of_z}
use Rattle.steady.proofs.Machine.{difference_fits}
use borrow.Author.Rules.{rules}
use Rattle.guess.proofs.numbers.minus.Goals as goal

pub overflow_sub-result : goal.overflow_sub-result
overflow_sub-result c = let y : to_z w64 (of_z w64 c.within-m.result) ≡ c.within-m.result = search rules in
    let z : to_z w64 (of_z w64 c.within-n.result) ≡ c.within-n.result = search rules in
    difference_fits (to_z w64 (of_z w64 c.within-n.result)) (to_z w64 (of_z w64 c.within-m.result)) (omega (arith, ap nat_abs y, ap nat_abs z, c.within-m.ensures, c.within-n.ensures))
