-- Invariant: c and the first i terms' amounts; each is small, so the sum so far fits.
use mathlib.Core.Path.{◌≡◌, refl, ap, ap₂, ◌∙◌}
use Prim.Native.Nat.{ℕ, ◌*◌, ◌-◌, ◌/◌, ◌≤◌, ◌<◌}
use native.Mathlib.Omega.{arith}
use lib.ListN.{length}
use Rattle.program.specs.Program.{terms_of}
use Rattle.program.specs.Evaluate.{sum_below}
use Rattle.program.proofs.Bodies.{terms_length}
use Rattle.bodies.specs.Readings.{reading_of, weighted}
use lib.IntN.{ℤ, nat_abs, ◌+ℤ◌}
use Rattle.format.specs.Limits.{max_number, max_coefficient}
use mir.Syntax.{w64}
use mir.Val.{to_z, of_z}
use mir.Facts.{to_z-of_z}
use Rattle.bodies.proofs.Loops.{sum_none, sum_more, total_small, weighted_small}
use borrow.Author.Rules.{rules}
use Rattle.bodies.proofs.sum.Goals as goal

pub loop-i-init : goal.loop-i-init
loop-i-init c = (omega arith, refl, sum_none _)

pub weigh-requires : goal.weigh-requires
weigh-requires c = record { i_in_bounds = (omega arith, omega arith); i_bound = c.requires.coefficients c.loop-i.i (omega (arith, terms_length c.args.body.now)); small = c.requires.small }

pub plus-total-requires : goal.plus-total-requires
plus-total-requires c = let w : to_z w64 (of_z w64 c.weigh.result) ≡ c.weigh.result = search rules in
    omega (
      arith,
      ap nat_abs c.loop-i.invariant.2,
      (let it : (i : ℕ) → i ≤ length c.args.body.now / 4 → nat_abs (sum_below ((let it : ℕ → ℤ = weighted (terms_of c.args.body.now) (reading_of c.args.readings.kept c.args.readings.first.now c.args.readings.second.now (terms_of c.args.body.now)) in it)) i) ≤ i * (max_coefficient * max_number) = λ i h. total_small c.args.readings.kept c.args.readings.first.now c.args.readings.second.now (terms_of c.args.body.now) c.requires.coefficients c.requires.small.0 c.requires.small.1 i
          (omega (arith, terms_length c.args.body.now)) in it) c.loop-i.i (omega arith),
      ap nat_abs (w ∙ c.weigh.ensures),
      (let it : (i : ℕ) → i < length c.args.body.now / 4 → nat_abs ((let it : ℕ → ℤ = weighted (terms_of c.args.body.now) (reading_of c.args.readings.kept c.args.readings.first.now c.args.readings.second.now (terms_of c.args.body.now)) in it) i) ≤ max_coefficient * max_number = λ i h. weighted_small c.args.readings.kept c.args.readings.first.now c.args.readings.second.now (terms_of c.args.body.now) c.requires.coefficients c.requires.small.0 c.requires.small.1 i
          (omega (arith, terms_length c.args.body.now)) in it) c.loop-i.i (omega arith),
    )

pub loop-i-preserved : goal.loop-i-preserved
loop-i-preserved c = let r : to_z w64 (of_z w64 c.plus-total.result) ≡ c.plus-total.result = search rules in
    let w : to_z w64 (of_z w64 c.weigh.result) ≡ c.weigh.result = search rules in
    (omega arith, refl, r ∙ c.plus-total.ensures ∙ ap₂ ◌+ℤ◌ c.loop-i.invariant.2 (w ∙ c.weigh.ensures) ∙ sum_more _ _)

pub plus-requires : goal.plus-requires
plus-requires c = omega (
  arith,
  ap nat_abs (to_z-of_z c.ranges.c),
  ap nat_abs c.loop-i.invariant.2,
  (let it : (i : ℕ) → i ≤ length c.args.body.now / 4 → nat_abs (sum_below ((let it : ℕ → ℤ = weighted (terms_of c.args.body.now) (reading_of c.args.readings.kept c.args.readings.first.now c.args.readings.second.now (terms_of c.args.body.now)) in it)) i) ≤ i * (max_coefficient * max_number) = λ i h. total_small c.args.readings.kept c.args.readings.first.now c.args.readings.second.now (terms_of c.args.body.now) c.requires.coefficients c.requires.small.0 c.requires.small.1 i
      (omega (arith, terms_length c.args.body.now)) in it) c.loop-i.i (omega arith),
)

pub returns : goal.returns
returns c = let e : c.loop-i.i ≡ length (terms_of c.args.body.now) = omega (arith, terms_length c.args.body.now) in
    let r : to_z w64 (of_z w64 c.plus.result) ≡ c.plus.result = search rules in
    r ∙ c.plus.ensures ∙ ap₂ ◌+ℤ◌ (to_z-of_z c.ranges.c) (c.loop-i.invariant.2 ∙ ap (sum_below _) e)
