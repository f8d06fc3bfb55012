-- A sum, or c and what the body adds to it.
-- c as the machine has it
use mathlib.Core.Path.{◌≡◌, refl, ap, ap₂, ◌∙◌}
use native.Mathlib.Omega.{arith}
use lib.IntN.{nat_abs, ◌+ℤ◌}
use mir.Syntax.{w64}
use mir.Val.{to_z, of_z}
use mir.Facts.{to_z-of_z}
use Rattle.program.specs.Program.{terms_of}
use Rattle.program.proofs.Bodies.{terms_length}
use Rattle.sided.proofs.Amounts.{plain_of, bare, amount_one}
use borrow.Author.Rules.{rules}
use Rattle.sided.proofs.rules.amount.Goals as goal

pub sum-requires : goal.sum-requires
sum-requires c = record { c_bound = (rw ((let it : to_z w64 (of_z w64 c.args.c) ≡ c.args.c = to_z-of_z c.ranges.c in it)) c.requires.evaluable_as.near, omega (arith, c.requires.evaluable_as.few, terms_length c.args.body.now)); plain = plain_of c.requires.evaluable_as 1 c.if-form-eq1.true refl; coefficients = c.requires.evaluable_as.weights c.if-form-eq1.true; small = c.requires.small }

pub returns-then-form-eq1 : goal.returns-then-form-eq1
returns-then-form-eq1 c = let v : to_z w64 (of_z w64 c.sum.result) ≡ c.sum.result = search rules in
    let q = rw ((let it : to_z w64 (of_z w64 c.args.c) ≡ c.args.c = to_z-of_z c.ranges.c in it)) at c.sum.ensures in
    amount_one c.args.sides.now c.args.side c.args.c (terms_of c.args.body.now) c.if-form-eq1.true (v ∙ q)

pub added-requires : goal.added-requires
added-requires c = record { fact = c.if-form-eq1.false; evaluable_as = bare c.requires.evaluable_as; small = c.requires.small }

pub plus-requires : goal.plus-requires
plus-requires c = let v : to_z w64 (of_z w64 c.added.result) ≡ c.added.result = search rules in
    omega (arith, ap nat_abs ((let it : to_z w64 (of_z w64 c.args.c) ≡ c.args.c = to_z-of_z c.ranges.c in it)), c.requires.evaluable_as.near, ap nat_abs v, c.added.ensures.result_bound)

pub returns : goal.returns
returns c = let v : to_z w64 (of_z w64 c.added.result) ≡ c.added.result = search rules in
    let z : to_z w64 (of_z w64 c.plus.result) ≡ c.plus.result = search rules in
    z ∙ c.plus.ensures ∙ ap₂ ◌+ℤ◌ ((let it : to_z w64 (of_z w64 c.args.c) ≡ c.args.c = to_z-of_z c.ranges.c in it)) v ∙ c.added.ensures.result_value c.args.c
