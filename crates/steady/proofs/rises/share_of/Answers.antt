-- The weight times the stride, and times the steps: both fit, since the room and the numbers are small.
use mathlib.Core.Path.{◌≡◌, ap₂, ◌∙◌}
use Prim.Native.Nat.{ℕ, ◌+◌, ◌*◌, ◌≤◌}
use native.Mathlib.Omega.{arith}
use native.Mathlib.Nat.{mul-le-mul}
use lib.IntN.{ℤ, pos, nat_abs, ◌*ℤ◌}
use mir.Syntax.{w64}
use mir.Val.{SFits, to_z, of_z}
use mir.Facts.{to_z-of_z}
use Rattle.format.specs.Limits.{max_number, max_coefficient}
use Rattle.steady.specs.Estimate.{weight}
use Rattle.steady.specs.Steps.{steps_of}
use Rattle.steady.specs.Strides.{stride_of}
use Rattle.steady.proofs.Weights.{weight_room, weight_number}
use Rattle.steady.proofs.Machine.{steps_small, stride_own}
use borrow.Author.Rules.{rules}
use Rattle.steady.proofs.rises.share_of.Goals as goal

-- what the calls answer
the-weight : {room number w st sp : ℤ} {stride steps : ℕ} → SFits w64 room → to_z w64 (of_z w64 number) ≡ number
    → w ≡ pos (weight (nat_abs (to_z w64 (of_z w64 room))) (to_z w64 (of_z w64 number)) (nat_abs st) (nat_abs sp))
    → st ≡ pos stride → sp ≡ pos steps → w ≡ pos (weight (nat_abs room) number stride steps)
the-weight f n e p q = e ∙ rw (to_z-of_z f, n, p, q)

rise_small : (room number : ℤ) (stride steps : ℕ) → nat_abs number ≤ max_coefficient → steps ≤ max_number + max_number
    → weight (nat_abs room) number stride steps * steps ≤ max_coefficient * (max_number + max_number)
rise_small room number stride steps h k =
    mul-le-mul {n₁ = weight (nat_abs room) number stride steps} {m₁ = steps} {n₂ = max_coefficient} {m₂ = max_number + max_number}
    (omega (arith, weight_number (nat_abs room) number stride steps)) k

pub weight-weight-requires : goal.weight-weight-requires
weight-weight-requires c =
    let n : to_z w64 (of_z w64 c.args.term.number) ≡ c.args.term.number = search rules in
    let y : to_z w64 (of_z w64 c.stride_of-stride.result) ≡ c.stride_of-stride.result = search rules in
    rw (to_z-of_z c.ranges.room, n) (c.requires.pos_bound.0, omega (arith, c.requires.pos_bound.1, c.requires.pos_bound.2), (stride_own _ (y ∙ c.stride_of-stride.ensures)).0)

pub times-taken-requires : goal.times-taken-requires
times-taken-requires c =
    let n : to_z w64 (of_z w64 c.args.term.number) ≡ c.args.term.number = search rules in
    let x : to_z w64 (of_z w64 c.steps_of-steps.result) ≡ c.steps_of-steps.result = search rules in
    let y : to_z w64 (of_z w64 c.stride_of-stride.result) ≡ c.stride_of-stride.result = search rules in
    let z : to_z w64 (of_z w64 c.weight-weight.result) ≡ c.weight-weight.result = search rules in
    let p = x ∙ c.steps_of-steps.ensures in
    let q = y ∙ c.stride_of-stride.ensures in
    rw (z ∙ the-weight c.ranges.room n c.weight-weight.ensures q p, q) (omega (arith, weight_room (nat_abs c.args.room) c.args.term.number (stride_of c.args.strides.now c.args.term.variable) (steps_of c.args.readings.kept c.args.readings.first.now c.args.aims.now c.args.i c.args.term.variable), c.requires.pos_bound.1))

pub times-rise-requires : goal.times-rise-requires
times-rise-requires c =
    let n : to_z w64 (of_z w64 c.args.term.number) ≡ c.args.term.number = search rules in
    let x : to_z w64 (of_z w64 c.steps_of-steps.result) ≡ c.steps_of-steps.result = search rules in
    let y : to_z w64 (of_z w64 c.stride_of-stride.result) ≡ c.stride_of-stride.result = search rules in
    let z : to_z w64 (of_z w64 c.weight-weight.result) ≡ c.weight-weight.result = search rules in
    let p = x ∙ c.steps_of-steps.ensures in
    let q = y ∙ c.stride_of-stride.ensures in
    rw (z ∙ the-weight c.ranges.room n c.weight-weight.ensures q p, p) (omega (
      arith,
      rise_small c.args.room c.args.term.number (stride_of c.args.strides.now c.args.term.variable) (steps_of c.args.readings.kept c.args.readings.first.now c.args.aims.now c.args.i c.args.term.variable) c.requires.pos_bound.2
          (steps_small c.args.readings.kept c.args.readings.first.now c.args.aims.now c.requires.small.0 c.requires.small.1 c.args.i _),
    ))

pub returns : goal.returns
returns c =
    let n : to_z w64 (of_z w64 c.args.term.number) ≡ c.args.term.number = search rules in
    let x : to_z w64 (of_z w64 c.steps_of-steps.result) ≡ c.steps_of-steps.result = search rules in
    let y : to_z w64 (of_z w64 c.stride_of-stride.result) ≡ c.stride_of-stride.result = search rules in
    let z : to_z w64 (of_z w64 c.weight-weight.result) ≡ c.weight-weight.result = search rules in
    let t : to_z w64 (of_z w64 c.times-taken.result) ≡ c.times-taken.result = search rules in
    let r : to_z w64 (of_z w64 c.times-rise.result) ≡ c.times-rise.result = search rules in
    let p = x ∙ c.steps_of-steps.ensures in
    let q = y ∙ c.stride_of-stride.ensures in
    let w = z ∙ the-weight c.ranges.room n c.weight-weight.ensures q p in
    (t ∙ c.times-taken.ensures ∙ ap₂ ◌*ℤ◌ w q, r ∙ c.times-rise.ensures ∙ ap₂ ◌*ℤ◌ w p)
