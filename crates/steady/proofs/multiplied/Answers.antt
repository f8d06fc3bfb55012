-- The product and its rise fit, since the factors are small.
use mathlib.Core.Path.{◌≡◌, refl, sym, ap, ap₂, ◌∙◌}
use Prim.Native.Nat.{ℕ, ◌+◌, ◌≤◌}
use native.Mathlib.Omega.{arith}
use mathlib.Core.List.{List}
use lib.IntN.{ℤ, pos, nat_abs, ◌+ℤ◌}
use mir.Syntax.{w64}
use mir.Val.{to_z, of_z}
use mir.Facts.{to_z-of_z}
use Rattle.format.specs.Limits.{max_number}
use Rattle.format.proofs.Ints.{abs_add}
use Rattle.program.specs.Program.{terms_of}
use Rattle.program.specs.Evaluable.{Small}
use Rattle.program.specs.declared.Term.{Term}
use Rattle.program.proofs.Bodies.{terms_length}
use Rattle.program.proofs.Gives.{enough_of}
use Rattle.bodies.specs.Readings.{reading_of}
use Rattle.bodies.proofs.Loops.{reading_small, product_small}
use Rattle.steady.specs.Estimate.{further, factor_rise}
use Rattle.steady.proofs.Machine.{apart_small, factor_small}
use Rattle.steady.proofs.SteadyLaws.{moved_product}
use borrow.Author.Rules.{rules}
use Rattle.steady.proofs.multiplied.Goals as goal

module _ (kept : ℕ) (first aims second : List ℤ) (ts : List Term) (h : Small first × Small aims × Small second) where
  abbrev at : ℕ → ℤ
  at = reading_of kept first second ts

  small : (i : ℕ) → nat_abs (at i) ≤ max_number
  small i = reading_small kept first second ts i h.0 h.2

  rise_small : factor_rise at (reading_of kept aims second ts) ≤ max_number + max_number
  rise_small = factor_small at (reading_of kept aims second ts) _ (apart_small kept first aims second ts h.0 h.1 h.2)

pub product-requires : goal.product-requires
product-requires c = record { in_bounds = omega (arith, enough_of c.requires.evaluable_as 4 refl, terms_length c.args.body.now); small = (c.requires.small.0, c.requires.small.2) }

pub plus-total-requires : goal.plus-total-requires
plus-total-requires c =
    let at = reading_of c.args.readings.kept c.args.readings.first.now c.args.readings.second.now (terms_of c.args.body.now) in
    let small = small c.args.readings.kept c.args.readings.first.now c.args.aims.now c.args.readings.second.now (terms_of c.args.body.now) c.requires.small in
    let v : to_z w64 (of_z w64 c.product.result) ≡ c.product.result = search rules in
    omega (arith, ap nat_abs (to_z-of_z c.ranges.c), c.requires.evaluable_as.near, ap nat_abs (v ∙ c.product.ensures), product_small (at 0) (at 1) (small 0) (small 1))

pub factor_rise-rise-requires : goal.factor_rise-rise-requires
factor_rise-rise-requires c = record { in_bounds = omega (arith, enough_of c.requires.evaluable_as 4 refl, terms_length c.args.body.now); small = (c.requires.small.0, c.requires.small.1) }

pub further-requires : goal.further-requires
further-requires c =
    let at = reading_of c.args.readings.kept c.args.readings.first.now c.args.readings.second.now (terms_of c.args.body.now) in
    let small = small c.args.readings.kept c.args.readings.first.now c.args.aims.now c.args.readings.second.now (terms_of c.args.body.now) c.requires.small in
    let v : to_z w64 (of_z w64 c.product.result) ≡ c.product.result = search rules in
    let p : to_z w64 (of_z w64 c.plus-total.result) ≡ c.plus-total.result = search rules in
    let r : to_z w64 (of_z w64 c.factor_rise-rise.result) ≡ c.factor_rise-rise.result = search rules in
    omega (
      arith,
      ap nat_abs (p ∙ c.plus-total.ensures),
      abs_add (to_z w64 (of_z w64 c.args.c)) (to_z w64 (of_z w64 c.product.result)),
      ap nat_abs (to_z-of_z c.ranges.c),
      c.requires.evaluable_as.near,
      ap nat_abs (v ∙ c.product.ensures),
      product_small (at 0) (at 1) (small 0) (small 1),
      ap nat_abs (r ∙ c.factor_rise-rise.ensures),
      rise_small c.args.readings.kept c.args.readings.first.now c.args.aims.now c.args.readings.second.now (terms_of c.args.body.now) c.requires.small,
    )

pub returns : goal.returns
returns c =
    let at = reading_of c.args.readings.kept c.args.readings.first.now c.args.readings.second.now (terms_of c.args.body.now) in
    let aim = reading_of c.args.readings.kept c.args.aims.now c.args.readings.second.now (terms_of c.args.body.now) in
    let v : to_z w64 (of_z w64 c.product.result) ≡ c.product.result = search rules in
    let p : to_z w64 (of_z w64 c.plus-total.result) ≡ c.plus-total.result = search rules in
    let r : to_z w64 (of_z w64 c.factor_rise-rise.result) ≡ c.factor_rise-rise.result = search rules in
    let z : to_z w64 (of_z w64 c.further.result) ≡ c.further.result = search rules in
    z ∙ c.further.ensures
    ∙ ap₂ (further c.args.x) (p ∙ c.plus-total.ensures ∙ ap₂ ◌+ℤ◌ (to_z-of_z c.ranges.c) (v ∙ c.product.ensures)) (r ∙ c.factor_rise-rise.ensures)
    ∙ sym (moved_product c.args.x c.args.c (pos 1) (terms_of c.args.body.now) at aim refl)
