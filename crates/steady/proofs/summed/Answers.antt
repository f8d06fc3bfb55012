-- The sum and its rise fit, since a body has few terms and their values are small.
use mathlib.Core.Path.{◌≡◌, refl, sym, ap, ap₂, ◌∙◌}
use mathlib.Core.List.{List}
use Prim.Native.Nat.{ℕ, ◌+◌, ◌*◌, ◌≤◌}
use native.Mathlib.Omega.{arith}
use native.Mathlib.Nat.{mul-le-mul}
use lib.IntN.{ℤ, pos, nat_abs, ◌+ℤ◌, ◌*ℤ◌}
use lib.ListN.{length}
use mir.Syntax.{w64}
use mir.Val.{SFits, to_z, of_z}
use mir.Facts.{to_z-of_z}
use Rattle.format.specs.Limits.{max_number, max_divisor}
use Rattle.format.proofs.Int.{int}
use Rattle.format.proofs.Ints.{abs_add}
use Rattle.program.specs.Program.{terms_of}
use lib.Signed.{◌≤ℤ◌}
use Rattle.program.specs.Evaluate.{sum_below, over_up}
use Rattle.program.specs.Evaluable.{Small, EvaluableAs}
use Rattle.program.specs.declared.Term.{Term}
use Rattle.program.proofs.Bodies.{terms_length}
use Rattle.bodies.specs.Readings.{reading_of, weighted}
use Rattle.bodies.proofs.Loops.{total_small}
use Rattle.steady.specs.Estimate.{further, rise_below, number_at}
use Rattle.steady.specs.Steps.{steps_at}
use Rattle.steady.specs.Strides.{stride_at}
use Rattle.steady.proofs.Machine.{own_size, steps_small, stride_least, rise_near, rise_is, further_small}
use Rattle.steady.proofs.SteadyLaws.{estimated_sum}
use borrow.Author.Rules.{rules}
use Rattle.steady.proofs.summed.Goals as goal

module _
    (own_stride c divisor : ℤ) (kept : ℕ) (first aims second strides : List ℤ) (ts : List Term)
    (fits_c : SFits w64 c) (fits_own : SFits w64 own_stride) (fits_divisor : SFits w64 divisor)
    (as_sum : EvaluableAs 1 c divisor ts) (near : pos 1 ≤ℤ own_stride × nat_abs own_stride ≤ max_number) (values : Small first × Small aims × Small second) where
  abbrev at : ℕ → ℤ
  at = reading_of kept first second ts

  -- the sum of the terms
  abbrev terms : ℤ
  terms = sum_below (weighted ts at) (length ts)

  abbrev own : ℕ
  own = nat_abs own_stride

  abbrev stride : ℕ → ℕ
  stride = stride_at strides ts

  -- the rise, by the room
  abbrev rise-in : ℕ → ℕ
  rise-in room = rise_below room (number_at ts) stride (steps_at kept first aims ts) (length ts)

  abbrev rise-of : ℕ
  rise-of = rise-in (nat_abs divisor * own)

  terms_small : nat_abs terms ≤ length ts * 30000000
  terms_small = total_small kept first second ts (as_sum.weights refl) values.0 values.2 (length ts) (omega arith)

  sum_small : nat_abs (c +ℤ terms) ≤ 1000000000
  sum_small = omega (arith, abs_add c terms, as_sum.near, terms_small, as_sum.few)

  few : nat_abs divisor * own ≤ max_divisor * max_number
  few = mul-le-mul {n₁ = nat_abs divisor} {m₁ = own} {n₂ = max_divisor} {m₂ = max_number} as_sum.divisor_near near.1

  rise_small : rise-of ≤ max_divisor * max_number * (max_number + max_number)
  rise_small = rise_near _ _ _ _ (λ i. stride_least _) few (length ts) (λ i. steps_small kept first aims values.0 values.1 i _)

  -- what the calls answer
  the_sum : {r : ℤ} → r ≡ to_z w64 (of_z w64 c) +ℤ terms → r ≡ c +ℤ terms
  the_sum e = e ∙ ap (λ (k : ℤ). k +ℤ terms) (to_z-of_z fits_c)

  the-room : {r : ℤ} → r ≡ to_z w64 (of_z w64 divisor) *ℤ to_z w64 (of_z w64 own_stride) → r ≡ pos (nat_abs divisor * own)
  the-room e = e ∙ ap₂ ◌*ℤ◌ (to_z-of_z fits_divisor ∙ own_size divisor as_sum.divisor_least) (to_z-of_z fits_own ∙ own_size own_stride near.0)

  the-rise : {r room : ℤ} → r ≡ pos (rise-in (nat_abs room)) → room ≡ pos (nat_abs divisor * own) → r ≡ pos rise-of
  the-rise e p = e ∙ ap (λ (k : ℤ). pos (rise-in (nat_abs k))) p

pub sum-sum-requires : goal.sum-sum-requires
sum-sum-requires c = record { c_bound = (rw (to_z-of_z c.ranges.c) c.requires.evaluable_as.near, omega (arith, c.requires.evaluable_as.few, terms_length c.args.body.now)); coefficients = c.requires.evaluable_as.weights refl; small = (c.requires.small.0, c.requires.small.2) }

pub times-room-requires : goal.times-room-requires
times-room-requires c = rw (to_z-of_z c.ranges.divisor, to_z-of_z c.ranges.own) (omega (arith, few c.args.own c.args.c c.args.divisor c.args.readings.kept c.args.readings.first.now c.args.aims.now c.args.readings.second.now c.args.strides.now (terms_of c.args.body.now) c.ranges.c c.ranges.own c.ranges.divisor c.requires.evaluable_as c.requires.pos_bound c.requires.small))

pub rise-rise-requires : goal.rise-rise-requires
rise-rise-requires c = let y : to_z w64 (of_z w64 c.times-room.result) ≡ c.times-room.result = search rules in
    let m = y ∙ the-room c.args.own c.args.c c.args.divisor c.args.readings.kept c.args.readings.first.now c.args.aims.now c.args.readings.second.now c.args.strides.now (terms_of c.args.body.now) c.ranges.c c.ranges.own c.ranges.divisor c.requires.evaluable_as c.requires.pos_bound c.requires.small c.times-room.ensures in
    record { pos_bound = (rw m (omega int), rw m (few c.args.own c.args.c c.args.divisor c.args.readings.kept c.args.readings.first.now c.args.aims.now c.args.readings.second.now c.args.strides.now (terms_of c.args.body.now) c.ranges.c c.ranges.own c.ranges.divisor c.requires.evaluable_as c.requires.pos_bound c.requires.small), omega (arith, c.requires.evaluable_as.few, terms_length c.args.body.now)); coefficients = c.requires.evaluable_as.weights refl; small = (c.requires.small.0, c.requires.small.1) }

pub further-requires : goal.further-requires
further-requires c = let v : to_z w64 (of_z w64 c.sum-sum.result) ≡ c.sum-sum.result = search rules in
    let y : to_z w64 (of_z w64 c.times-room.result) ≡ c.times-room.result = search rules in
    let r : to_z w64 (of_z w64 c.rise-rise.result) ≡ c.rise-rise.result = search rules in
    omega (
      arith,
      ap nat_abs (v ∙ the_sum c.args.own c.args.c c.args.divisor c.args.readings.kept c.args.readings.first.now c.args.aims.now c.args.readings.second.now c.args.strides.now (terms_of c.args.body.now) c.ranges.c c.ranges.own c.ranges.divisor c.requires.evaluable_as c.requires.pos_bound c.requires.small c.sum-sum.ensures),
      sum_small c.args.own c.args.c c.args.divisor c.args.readings.kept c.args.readings.first.now c.args.aims.now c.args.readings.second.now c.args.strides.now (terms_of c.args.body.now) c.ranges.c c.ranges.own c.ranges.divisor c.requires.evaluable_as c.requires.pos_bound c.requires.small,
      ap nat_abs (r ∙ the-rise c.args.own c.args.c c.args.divisor c.args.readings.kept c.args.readings.first.now c.args.aims.now c.args.readings.second.now c.args.strides.now (terms_of c.args.body.now) c.ranges.c c.ranges.own c.ranges.divisor c.requires.evaluable_as c.requires.pos_bound c.requires.small c.rise-rise.ensures (y ∙ the-room c.args.own c.args.c c.args.divisor c.args.readings.kept c.args.readings.first.now c.args.aims.now c.args.readings.second.now c.args.strides.now (terms_of c.args.body.now) c.ranges.c c.ranges.own c.ranges.divisor c.requires.evaluable_as c.requires.pos_bound c.requires.small c.times-room.ensures)),
      rise_small c.args.own c.args.c c.args.divisor c.args.readings.kept c.args.readings.first.now c.args.aims.now c.args.readings.second.now c.args.strides.now (terms_of c.args.body.now) c.ranges.c c.ranges.own c.ranges.divisor c.requires.evaluable_as c.requires.pos_bound c.requires.small,
    )

pub over_up-requires : goal.over_up-requires
over_up-requires c = let v : to_z w64 (of_z w64 c.sum-sum.result) ≡ c.sum-sum.result = search rules in
    let y : to_z w64 (of_z w64 c.times-room.result) ≡ c.times-room.result = search rules in
    let r : to_z w64 (of_z w64 c.rise-rise.result) ≡ c.rise-rise.result = search rules in
    let f : to_z w64 (of_z w64 c.further.result) ≡ c.further.result = search rules in
    let k = further_small c.args.x (to_z w64 (of_z w64 c.sum-sum.result)) (to_z w64 (of_z w64 c.rise-rise.result)) in
    rw (to_z-of_z c.ranges.divisor) (
      c.requires.evaluable_as.divisor_least,
      omega (
        arith,
        ap nat_abs (f ∙ c.further.ensures),
        k,
        ap nat_abs (v ∙ the_sum c.args.own c.args.c c.args.divisor c.args.readings.kept c.args.readings.first.now c.args.aims.now c.args.readings.second.now c.args.strides.now (terms_of c.args.body.now) c.ranges.c c.ranges.own c.ranges.divisor c.requires.evaluable_as c.requires.pos_bound c.requires.small c.sum-sum.ensures),
        sum_small c.args.own c.args.c c.args.divisor c.args.readings.kept c.args.readings.first.now c.args.aims.now c.args.readings.second.now c.args.strides.now (terms_of c.args.body.now) c.ranges.c c.ranges.own c.ranges.divisor c.requires.evaluable_as c.requires.pos_bound c.requires.small,
        ap nat_abs (r ∙ the-rise c.args.own c.args.c c.args.divisor c.args.readings.kept c.args.readings.first.now c.args.aims.now c.args.readings.second.now c.args.strides.now (terms_of c.args.body.now) c.ranges.c c.ranges.own c.ranges.divisor c.requires.evaluable_as c.requires.pos_bound c.requires.small c.rise-rise.ensures (y ∙ the-room c.args.own c.args.c c.args.divisor c.args.readings.kept c.args.readings.first.now c.args.aims.now c.args.readings.second.now c.args.strides.now (terms_of c.args.body.now) c.ranges.c c.ranges.own c.ranges.divisor c.requires.evaluable_as c.requires.pos_bound c.requires.small c.times-room.ensures)),
        rise_small c.args.own c.args.c c.args.divisor c.args.readings.kept c.args.readings.first.now c.args.aims.now c.args.readings.second.now c.args.strides.now (terms_of c.args.body.now) c.ranges.c c.ranges.own c.ranges.divisor c.requires.evaluable_as c.requires.pos_bound c.requires.small,
        c.requires.evaluable_as.divisor_near,
      ),
    )

pub returns : goal.returns
returns c =
    let ts = terms_of c.args.body.now in
    let v : to_z w64 (of_z w64 c.sum-sum.result) ≡ c.sum-sum.result = search rules in
    let y : to_z w64 (of_z w64 c.times-room.result) ≡ c.times-room.result = search rules in
    let r : to_z w64 (of_z w64 c.rise-rise.result) ≡ c.rise-rise.result = search rules in
    let f : to_z w64 (of_z w64 c.further.result) ≡ c.further.result = search rules in
    let z : to_z w64 (of_z w64 c.over_up.result) ≡ c.over_up.result = search rules in
    let m = r ∙ the-rise c.args.own c.args.c c.args.divisor c.args.readings.kept c.args.readings.first.now c.args.aims.now c.args.readings.second.now c.args.strides.now (terms_of c.args.body.now) c.ranges.c c.ranges.own c.ranges.divisor c.requires.evaluable_as c.requires.pos_bound c.requires.small c.rise-rise.ensures (y ∙ the-room c.args.own c.args.c c.args.divisor c.args.readings.kept c.args.readings.first.now c.args.aims.now c.args.readings.second.now c.args.strides.now (terms_of c.args.body.now) c.ranges.c c.ranges.own c.ranges.divisor c.requires.evaluable_as c.requires.pos_bound c.requires.small c.times-room.ensures) in
    z ∙ c.over_up.ensures
    ∙ ap₂ over_up (to_z-of_z c.ranges.divisor) (f ∙ c.further.ensures ∙ ap₂ (further c.args.x) (v ∙ the_sum c.args.own c.args.c c.args.divisor c.args.readings.kept c.args.readings.first.now c.args.aims.now c.args.readings.second.now c.args.strides.now (terms_of c.args.body.now) c.ranges.c c.ranges.own c.ranges.divisor c.requires.evaluable_as c.requires.pos_bound c.requires.small c.sum-sum.ensures)
    (m ∙ ap pos (rise_is (nat_abs c.args.own) (stride_at c.args.strides.now (terms_of c.args.body.now)) c.args.divisor (terms_of c.args.body.now) c.args.readings.kept c.args.readings.first.now c.args.aims.now c.args.readings.second.now)))
    ∙ sym (estimated_sum c.args.x c.args.c c.args.divisor ts (reading_of c.args.readings.kept c.args.readings.first.now c.args.readings.second.now ts) (reading_of c.args.readings.kept c.args.aims.now c.args.readings.second.now ts) (nat_abs c.args.own) (stride_at c.args.strides.now ts) refl)
