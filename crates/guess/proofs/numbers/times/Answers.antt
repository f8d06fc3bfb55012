use mathlib.Core.Path.{◌≡◌, ap}
use native.Mathlib.Omega.{arith}
use lib.IntN.{nat_abs, ◌*ℤ◌}
use mir.Syntax.{w64}
use mir.Val.{to_z, of_z}
use Rattle.format.proofs.Ints.{abs_mul_le, sfits_abs}
use borrow.Author.Rules.{rules}
use Rattle.guess.proofs.numbers.times.Goals as goal

pub overflow_mul-result : goal.overflow_mul-result
overflow_mul-result c = let y : to_z w64 (of_z w64 c.near-m.result) ≡ c.near-m.result = search rules in
    let z : to_z w64 (of_z w64 c.near-n.result) ≡ c.near-n.result = search rules in
    let a = to_z w64 (of_z w64 c.near-m.result) in
    let b = to_z w64 (of_z w64 c.near-n.result) in
    sfits_abs (a *ℤ b) 900000000 (abs_mul_le a b 30000 30000 (omega (arith, ap nat_abs y, c.near-m.ensures)) (omega (arith, ap nat_abs z, c.near-n.ensures))) (omega arith)
