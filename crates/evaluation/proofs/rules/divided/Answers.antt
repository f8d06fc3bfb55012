-- The sum, rounded up over the divisor; it fits, since a body has few terms and their values are small.
use mathlib.Core.Path.{◌≡◌, refl, sym, ap, ap₂, ◌∙◌}
use native.Mathlib.Omega.{arith}
use lib.IntN.{ℤ, nat_abs, ◌+ℤ◌}
use lib.ListN.{length}
use mir.Syntax.{w64}
use mir.Val.{to_z, of_z}
use mir.Facts.{to_z-of_z}
use Rattle.format.proofs.Ints.{abs_add}
use Rattle.program.specs.Program.{terms_of}
use Rattle.program.specs.Evaluate.{sum_below, over_up}
use Rattle.program.proofs.Bodies.{terms_length}
use Rattle.program.proofs.Gives.{amount_sum}
use Rattle.bodies.specs.Readings.{reading_of, weighted}
use Rattle.bodies.proofs.Loops.{total_small}
use borrow.Author.Rules.{rules}
use Rattle.evaluation.proofs.rules.divided.Goals as goal

pub sum-requires-clause-c_bound : goal.sum-requires-clause-c_bound
sum-requires-clause-c_bound c = (rw (to_z-of_z c.ranges.c) c.requires.evaluable_as.near, omega (arith, c.requires.evaluable_as.few, terms_length c.args.body.now))

pub over_up-requires : goal.over_up-requires
over_up-requires c =
    let ts = terms_of c.args.body.now in
    let at = reading_of c.args.readings.kept c.args.readings.first.now c.args.readings.second.now ts in
    let v : to_z w64 (of_z w64 c.sum.result) ≡ c.sum.result = search rules in
    let w = total_small c.args.readings.kept c.args.readings.first.now c.args.readings.second.now ts (c.requires.evaluable_as.weights refl) c.requires.small.0 c.requires.small.1 (length ts) (omega arith) in
    let b = abs_add (to_z w64 (of_z w64 c.args.c)) (sum_below (weighted ts at) (length ts)) in
    rw (to_z-of_z c.ranges.divisor)
    (c.requires.evaluable_as.divisor_least, omega (arith, ap nat_abs (to_z-of_z c.ranges.c), c.requires.evaluable_as.near, c.requires.evaluable_as.few, c.requires.evaluable_as.divisor_near, ap nat_abs (v ∙ c.sum.ensures), w, b))

pub returns : goal.returns
returns c =
    let ts = terms_of c.args.body.now in
    let at = reading_of c.args.readings.kept c.args.readings.first.now c.args.readings.second.now ts in
    let v : to_z w64 (of_z w64 c.sum.result) ≡ c.sum.result = search rules in
    let z : to_z w64 (of_z w64 c.over_up.result) ≡ c.over_up.result = search rules in
    let t = v ∙ c.sum.ensures ∙ ap (λ (k : ℤ). k +ℤ sum_below (weighted ts at) (length ts)) (to_z-of_z c.ranges.c) in
    z ∙ c.over_up.ensures ∙ ap₂ over_up (to_z-of_z c.ranges.divisor) t ∙ sym (amount_sum _ _ _ _ refl)
