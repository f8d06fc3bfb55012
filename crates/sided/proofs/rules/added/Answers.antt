-- Each arm is what its form adds to c.
use mathlib.Core.Path.{◌≡◌, refl, ap, ◌∙◌}
use native.Mathlib.Omega.{arith}
use lib.IntN.{ℤ, pos, nat_abs}
use mir.Syntax.{w64}
use mir.Val.{to_z, of_z}
use Rattle.program.specs.Program.{terms_of}
use Rattle.program.proofs.Bodies.{terms_length}
use Rattle.program.proofs.Gives.{enough_of}
use Rattle.sided.proofs.Sided.{sided_small}
use Rattle.sided.proofs.Amounts.{plain_of, picked_from, no_other, adds_extreme, adds_product, adds_size, adds_carried, adds_none}
use borrow.Author.Rules.{rules}
use Rattle.sided.proofs.rules.added.Goals as goal

pub extreme-requires : goal.extreme-requires
extreme-requires c = let p = picked_from c.requires.evaluable_as c.if-form.true in
    record { in_bounds = omega (arith, p.0, terms_length c.args.body.now); plain = p.1 }

pub returns-then-form : goal.returns-then-form
returns-then-form c = let v : to_z w64 (of_z w64 c.extreme.result) ≡ c.extreme.result = search rules in
    let t = adds_extreme c.args.sides.now c.args.form c.args.side (terms_of c.args.body.now) c.requires.small c.requires.fact c.if-form.true (v ∙ c.extreme.ensures) in
    record { result_bound = t.0; result_value = t.1 }

pub product-requires : goal.product-requires
product-requires c = record { in_bounds = omega (arith, enough_of c.requires.evaluable_as 4 c.in-4.is, terms_length c.args.body.now); plain = plain_of c.requires.evaluable_as 4 c.in-4.is refl; small = c.requires.small }

pub read_position-requires : goal.read_position-requires
read_position-requires c = omega (arith, enough_of c.requires.evaluable_as 5 c.in-5.is, terms_length c.args.body.now)

pub size-requires : goal.size-requires
size-requires c = let v : to_z w64 (of_z w64 c.read_position.result) ≡ c.read_position.result = search rules in
    omega (arith, ap nat_abs (v ∙ c.read_position.ensures), sided_small c.args.sides.now 0 c.args.side (terms_of c.args.body.now) c.requires.small 0)

pub read_position-requires-in-7 : goal.read_position-requires-in-7
read_position-requires-in-7 c = omega (arith, enough_of c.requires.evaluable_as 7 c.in-7.is, terms_length c.args.body.now)

pub returns-in-4 : goal.returns-in-4
returns-in-4 c = let v : to_z w64 (of_z w64 c.product.result) ≡ c.product.result = search rules in
    let t = adds_product c.args.sides.now c.args.form c.args.side (terms_of c.args.body.now) c.requires.small c.requires.fact c.in-4.is (v ∙ c.product.ensures) in
    record { result_bound = t.0; result_value = t.1 }

pub returns-in-5 : goal.returns-in-5
returns-in-5 c = let w : to_z w64 (of_z w64 c.read_position.result) ≡ c.read_position.result = search rules in
    let v : to_z w64 (of_z w64 c.size.result) ≡ c.size.result = search rules in
    let t = adds_size c.args.sides.now c.args.form c.args.side (terms_of c.args.body.now) c.requires.small c.requires.fact c.in-5.is
    (v ∙ c.size.ensures ∙ ap (λ (x : ℤ). pos (nat_abs x)) (w ∙ c.read_position.ensures)) in
    record { result_bound = t.0; result_value = t.1 }

pub returns-in-7 : goal.returns-in-7
returns-in-7 c = let v : to_z w64 (of_z w64 c.read_position-in-7.result) ≡ c.read_position-in-7.result = search rules in
    let t = adds_carried c.args.sides.now c.args.form c.args.side (terms_of c.args.body.now) c.requires.small c.requires.fact c.in-7.is (v ∙ c.read_position-in-7.ensures) in
    record { result_bound = t.0; result_value = t.1 }

pub returns-in-0-to-3 : goal.returns-in-0-to-3
returns-in-0-to-3 c =
    let t = adds_none c.args.form (terms_of c.args.body.now) _ (omega arith) in
    record { result_bound = t.0; result_value = t.1 }

pub returns-in-0-to-3-2 : goal.returns-in-0-to-3-2
returns-in-0-to-3-2 c = absurd (no_other c.requires.evaluable_as c.requires.fact c.if-form.false (omega arith) (omega arith) (omega arith) (omega arith))
