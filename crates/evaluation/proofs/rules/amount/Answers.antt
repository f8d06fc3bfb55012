-- Each arm is the amount of its form; the sums fit, since a body has few terms and their values are small.
use mathlib.Core.Path.{◌≡◌, refl, sym, ap, ap₂, ◌∙◌}
use Prim.Native.Nat.{ℕ, ◌-◌, ◌≤◌}
use native.Mathlib.Omega.{arith}
use lib.IntN.{ℤ, pos, nat_abs, ◌+ℤ◌}
use lib.ListN.{length}
use mathlib.Core.List.{List}
use mir.Syntax.{w64}
use mir.Val.{to_z, of_z}
use Rattle.format.specs.Limits.{max_number}
use Rattle.program.specs.Program.{terms_of}
use Rattle.program.specs.Evaluable.{Small}
use Rattle.program.specs.declared.Term.{Term}
use Rattle.program.proofs.Quotients.{over_one}
use Rattle.program.proofs.Bodies.{terms_length}
use Rattle.program.proofs.Gives.{enough_of, amount_sum, amount_largest, amount_smallest, amount_product, amount_size, amount_literals, amount_carried}
use Rattle.bodies.specs.Readings.{reading_of}
use Rattle.bodies.proofs.Loops.{reading_small, product_small, largest_small, smallest_small}
use borrow.Author.Rules.{rules}
use Rattle.evaluation.proofs.rules.amount.Goals as goal

-- the positions' readings are small
readings : (kept : ℕ) (first second : List ℤ) (ts : List Term) → Small first × Small second → (i : ℕ) → nat_abs (reading_of kept first second ts i) ≤ max_number
readings kept first second ts h i = reading_small kept first second ts i h.0 h.1

-- c and what is added to it
total : {r c0 c a b : ℤ} → r ≡ c0 +ℤ a → c0 ≡ c → a ≡ b → r ≡ c +ℤ b
total p h q = p ∙ ap₂ ◌+ℤ◌ h q

pub sum-requires-clause-c_bound : goal.sum-requires-clause-c_bound
sum-requires-clause-c_bound c =
    let m : to_z w64 (of_z w64 c.args.rule.c) ≡ c.args.rule.c = search rules in
    (rw m c.requires.evaluable_as.near, omega (arith, c.requires.evaluable_as.few, terms_length c.args.body.now))

pub largest-requires : goal.largest-requires
largest-requires c =
    let n = terms_length c.args.body.now in
    (omega (arith, enough_of c.requires.evaluable_as 2 c.in-2.is), omega (arith, c.requires.evaluable_as.few))

pub plus-requires : goal.plus-requires
plus-requires c =
    let m : to_z w64 (of_z w64 c.args.rule.c) ≡ c.args.rule.c = search rules in
    let at = reading_of c.args.readings.kept c.args.readings.first.now c.args.readings.second.now (terms_of c.args.body.now) in
    let small = readings c.args.readings.kept c.args.readings.first.now c.args.readings.second.now (terms_of c.args.body.now) c.requires.small in
    let v : to_z w64 (of_z w64 c.largest.result) ≡ c.largest.result = search rules in
    omega (arith, ap nat_abs m, c.requires.evaluable_as.near, ap nat_abs (v ∙ c.largest.ensures), largest_small at max_number small (length (terms_of c.args.body.now) - 1))

pub smallest-requires : goal.smallest-requires
smallest-requires c =
    let n = terms_length c.args.body.now in
    (omega (arith, enough_of c.requires.evaluable_as 3 c.in-3.is), omega (arith, c.requires.evaluable_as.few))

pub plus-requires-in-3 : goal.plus-requires-in-3
plus-requires-in-3 c =
    let m : to_z w64 (of_z w64 c.args.rule.c) ≡ c.args.rule.c = search rules in
    let at = reading_of c.args.readings.kept c.args.readings.first.now c.args.readings.second.now (terms_of c.args.body.now) in
    let small = readings c.args.readings.kept c.args.readings.first.now c.args.readings.second.now (terms_of c.args.body.now) c.requires.small in
    let v : to_z w64 (of_z w64 c.smallest.result) ≡ c.smallest.result = search rules in
    omega (arith, ap nat_abs m, c.requires.evaluable_as.near, ap nat_abs (v ∙ c.smallest.ensures), smallest_small at max_number small (length (terms_of c.args.body.now) - 1))

pub product-requires-clause-in_bounds : goal.product-requires-clause-in_bounds
product-requires-clause-in_bounds c =
    omega (arith, enough_of c.requires.evaluable_as 4 c.in-4.is, terms_length c.args.body.now)

pub plus-requires-in-4 : goal.plus-requires-in-4
plus-requires-in-4 c =
    let m : to_z w64 (of_z w64 c.args.rule.c) ≡ c.args.rule.c = search rules in
    let at = reading_of c.args.readings.kept c.args.readings.first.now c.args.readings.second.now (terms_of c.args.body.now) in
    let small = readings c.args.readings.kept c.args.readings.first.now c.args.readings.second.now (terms_of c.args.body.now) c.requires.small in
    let v : to_z w64 (of_z w64 c.product.result) ≡ c.product.result = search rules in
    omega (arith, ap nat_abs m, c.requires.evaluable_as.near, ap nat_abs (v ∙ c.product.ensures), product_small (at 0) (at 1) (small 0) (small 1))

pub read_position-only-requires : goal.read_position-only-requires
read_position-only-requires c =
    (omega (arith, enough_of c.requires.evaluable_as 5 c.in-5.is, terms_length c.args.body.now), omega arith)

pub size-requires : goal.size-requires
size-requires c =
    let small = readings c.args.readings.kept c.args.readings.first.now c.args.readings.second.now (terms_of c.args.body.now) c.requires.small in
    let v : to_z w64 (of_z w64 c.read_position-only.result) ≡ c.read_position-only.result = search rules in
    omega (arith, ap nat_abs (v ∙ c.read_position-only.ensures), small 0)

pub plus-requires-in-5 : goal.plus-requires-in-5
plus-requires-in-5 c =
    let m : to_z w64 (of_z w64 c.args.rule.c) ≡ c.args.rule.c = search rules in
    let small = readings c.args.readings.kept c.args.readings.first.now c.args.readings.second.now (terms_of c.args.body.now) c.requires.small in
    let v : to_z w64 (of_z w64 c.read_position-only.result) ≡ c.read_position-only.result = search rules in
    let z : to_z w64 (of_z w64 c.size.result) ≡ c.size.result = search rules in
    omega (arith, ap nat_abs m, c.requires.evaluable_as.near, ap nat_abs (z ∙ c.size.ensures), ap nat_abs (v ∙ c.read_position-only.ensures), small 0)

pub read_position-requires : goal.read_position-requires
read_position-requires c =
    (omega (arith, enough_of c.requires.evaluable_as 7 c.in-7.is, terms_length c.args.body.now), omega arith)

pub plus-requires-in-7 : goal.plus-requires-in-7
plus-requires-in-7 c =
    let m : to_z w64 (of_z w64 c.args.rule.c) ≡ c.args.rule.c = search rules in
    let small = readings c.args.readings.kept c.args.readings.first.now c.args.readings.second.now (terms_of c.args.body.now) c.requires.small in
    let v : to_z w64 (of_z w64 c.read_position.result) ≡ c.read_position.result = search rules in
    omega (arith, ap nat_abs m, c.requires.evaluable_as.near, ap nat_abs (v ∙ c.read_position.ensures), small 0)

pub returns-in-1 : goal.returns-in-1
returns-in-1 c =
    let m : to_z w64 (of_z w64 c.args.rule.c) ≡ c.args.rule.c = search rules in
    let v : to_z w64 (of_z w64 c.sum.result) ≡ c.sum.result = search rules in
    total (v ∙ c.sum.ensures) m refl ∙ sym (amount_sum _ _ _ _ c.in-1.is ∙ over_one _)

pub returns-in-2 : goal.returns-in-2
returns-in-2 c =
    let m : to_z w64 (of_z w64 c.args.rule.c) ≡ c.args.rule.c = search rules in
    let z : to_z w64 (of_z w64 c.plus.result) ≡ c.plus.result = search rules in
    let v : to_z w64 (of_z w64 c.largest.result) ≡ c.largest.result = search rules in
    total (z ∙ c.plus.ensures) m (v ∙ c.largest.ensures) ∙ sym (amount_largest _ _ _ _ c.in-2.is)

pub returns-in-3 : goal.returns-in-3
returns-in-3 c =
    let m : to_z w64 (of_z w64 c.args.rule.c) ≡ c.args.rule.c = search rules in
    let z : to_z w64 (of_z w64 c.plus-in-3.result) ≡ c.plus-in-3.result = search rules in
    let v : to_z w64 (of_z w64 c.smallest.result) ≡ c.smallest.result = search rules in
    total (z ∙ c.plus-in-3.ensures) m (v ∙ c.smallest.ensures) ∙ sym (amount_smallest _ _ _ _ c.in-3.is)

pub returns-in-4 : goal.returns-in-4
returns-in-4 c =
    let m : to_z w64 (of_z w64 c.args.rule.c) ≡ c.args.rule.c = search rules in
    let z : to_z w64 (of_z w64 c.plus-in-4.result) ≡ c.plus-in-4.result = search rules in
    let v : to_z w64 (of_z w64 c.product.result) ≡ c.product.result = search rules in
    total (z ∙ c.plus-in-4.ensures) m (v ∙ c.product.ensures) ∙ sym (amount_product _ _ _ _ c.in-4.is)

pub returns-in-7 : goal.returns-in-7
returns-in-7 c =
    let m : to_z w64 (of_z w64 c.args.rule.c) ≡ c.args.rule.c = search rules in
    let z : to_z w64 (of_z w64 c.plus-in-7.result) ≡ c.plus-in-7.result = search rules in
    let v : to_z w64 (of_z w64 c.read_position.result) ≡ c.read_position.result = search rules in
    total (z ∙ c.plus-in-7.ensures) m (v ∙ c.read_position.ensures) ∙ sym (amount_carried _ _ _ _ c.in-7.is)

pub returns-in-5 : goal.returns-in-5
returns-in-5 c =
    let m : to_z w64 (of_z w64 c.args.rule.c) ≡ c.args.rule.c = search rules in
    let z : to_z w64 (of_z w64 c.plus-in-5.result) ≡ c.plus-in-5.result = search rules in
    let w : to_z w64 (of_z w64 c.size.result) ≡ c.size.result = search rules in
    let v : to_z w64 (of_z w64 c.read_position-only.result) ≡ c.read_position-only.result = search rules in
    total (z ∙ c.plus-in-5.ensures) m (w ∙ c.size.ensures ∙ ap (λ (x : ℤ). pos (nat_abs x)) (v ∙ c.read_position-only.ensures))
    ∙ sym (amount_size _ _ _ _ c.in-5.is)

pub returns-in-6 : goal.returns-in-6
returns-in-6 c =
    let m : to_z w64 (of_z w64 c.args.rule.c) ≡ c.args.rule.c = search rules in
    m ∙ sym (amount_literals _ _ _ _ c.in-6.is)
