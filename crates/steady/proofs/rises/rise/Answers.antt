-- Invariant: the room that the first i positions leave, and their rise. Where no room is left, the positions that follow add nothing.
use mathlib.Core.List.{List}
use mathlib.Core.Path.{◌≡◌, refl, sym, ap, ◌∙◌}
use Prim.Native.Nat.{ℕ, ◌+◌, ◌*◌, ◌≤◌}
use native.Mathlib.Omega.{arith}
use lib.IntN.{ℤ, pos, nat_abs}
use lib.ListN.{length}
use Rattle.format.proofs.Int.{int}
use mir.Syntax.{w64}
use mir.Val.{to_z, of_z}
use mir.Facts.{to_z-of_z}
use Rattle.format.specs.Limits.{max_number, max_divisor}
use Rattle.program.specs.Program.{terms_of, term_in}
use Rattle.program.specs.Evaluable.{Small}
use Rattle.program.specs.declared.Term.{Term}
use Rattle.program.proofs.Bodies.{terms_length}
use Rattle.steady.specs.Estimate.{room_below, rise_below, number_at}
use Rattle.steady.specs.Steps.{steps_of, steps_at, Shared}
use Rattle.steady.specs.Strides.{stride_of, stride_at}
use Rattle.steady.proofs.Weights.{room_most}
use Rattle.steady.proofs.Machine.{room_size, room_none, rise_none, rise_whole, steps_small, stride_least, shared_here, total_here, room_here, total_fits, room_fits}
use borrow.Author.Rules.{rules}
use Rattle.steady.proofs.rises.rise.Goals as goal

module _ (kept : ℕ) (first aims strides : List ℤ) (ts : List Term) where
  abbrev steps : ℕ → ℕ
  steps = steps_at kept first aims ts

  abbrev stride : ℕ → ℕ
  stride = stride_at strides ts

  one : (i : ℕ) → 1 ≤ stride i
  one i = stride_least _

  small : Small first × Small aims → (i : ℕ) → steps i ≤ max_number + max_number
  small h i = steps_small kept first aims h.0 h.1 i _

  -- what position i takes and gives
  taken_here : (d i : ℕ) {left : ℤ} {t : Term} {taken lift : ℤ} → left ≡ pos (room_below d (number_at ts) stride steps i) → t ≡ term_in ts i
      → Shared (nat_abs left) t.number (stride_of strides t.variable) (steps_of kept first aims i t.variable) taken lift
      → Shared (room_below d (number_at ts) stride steps i) (number_at ts i) (stride i) (steps i) taken lift
  taken_here d i p q h = shared_here d ts kept first aims strides i h p q

pub loop-i-init : goal.loop-i-init
loop-i-init c = (omega arith, refl, room_size _ (rw (to_z-of_z c.ranges.room) c.requires.pos_bound.0) ∙ ap pos (room_none _ _ _ _), ap pos (rise_none _ _ _ _))

pub returns-then-left-eq0 : goal.returns-then-left-eq0
returns-then-left-eq0 c =
    let ts = terms_of c.args.body.now in
    let d = nat_abs (to_z w64 (of_z w64 c.args.room)) in
    let few : d ≤ max_divisor * max_number = rw (to_z-of_z c.ranges.room) c.requires.pos_bound.1 in
    let st = stride c.args.readings.kept c.args.readings.first.now c.args.aims.now c.args.strides.now (terms_of c.args.body.now) in
    let sp = steps c.args.readings.kept c.args.readings.first.now c.args.aims.now c.args.strides.now (terms_of c.args.body.now) in
    let e = ap nat_abs (sym c.loop-i.invariant.2 ∙ ap (to_z w64) c.if-left-eq0.true) in
    c.loop-i.invariant.3 ∙ ap pos (rise_whole d (number_at ts) st sp (one c.args.readings.kept c.args.readings.first.now c.args.aims.now c.args.strides.now (terms_of c.args.body.now)) c.loop-i.i (length ts) (omega (arith, terms_length c.args.body.now)) e)
    ∙ ap (λ (x : ℤ). pos (rise_below (nat_abs x) (number_at ts) st sp (length ts))) (to_z-of_z c.ranges.room)

pub share_of-part-requires : goal.share_of-part-requires
share_of-part-requires c =
    let ts = terms_of c.args.body.now in
    let d = nat_abs (to_z w64 (of_z w64 c.args.room)) in
    let few : d ≤ max_divisor * max_number = rw (to_z-of_z c.ranges.room) c.requires.pos_bound.1 in
    let st = stride c.args.readings.kept c.args.readings.first.now c.args.aims.now c.args.strides.now (terms_of c.args.body.now) in
    let sp = steps c.args.readings.kept c.args.readings.first.now c.args.aims.now c.args.strides.now (terms_of c.args.body.now) in
    let m = c.requires.coefficients c.loop-i.i (omega (arith, terms_length c.args.body.now)) in
    record { pos_bound = (rw c.loop-i.invariant.2 (omega int), rw c.loop-i.invariant.2 (omega (arith, room_most d (number_at ts) st sp c.loop-i.i)), rw c.term-term.ensures m, omega arith); small = c.requires.small }

pub overflow_add-total : goal.overflow_add-total
overflow_add-total c =
    let ts = terms_of c.args.body.now in
    let d = nat_abs (to_z w64 (of_z w64 c.args.room)) in
    let few : d ≤ max_divisor * max_number = rw (to_z-of_z c.ranges.room) c.requires.pos_bound.1 in
    let st = stride c.args.readings.kept c.args.readings.first.now c.args.aims.now c.args.strides.now (terms_of c.args.body.now) in
    let sp = steps c.args.readings.kept c.args.readings.first.now c.args.aims.now c.args.strides.now (terms_of c.args.body.now) in
    let x : to_z w64 (of_z w64 c.share_of-part.result.rise) ≡ c.share_of-part.result.rise = search rules in
    total_fits d (number_at ts) st sp c.loop-i.i few (one c.args.readings.kept c.args.readings.first.now c.args.aims.now c.args.strides.now (terms_of c.args.body.now)) (small c.args.readings.kept c.args.readings.first.now c.args.aims.now c.args.strides.now (terms_of c.args.body.now) c.requires.small) c.loop-i.invariant.3 (x ∙ (taken_here c.args.readings.kept c.args.readings.first.now c.args.aims.now c.args.strides.now (terms_of c.args.body.now) d c.loop-i.i c.loop-i.invariant.2 c.term-term.ensures c.share_of-part.ensures).1)

pub overflow_sub-left : goal.overflow_sub-left
overflow_sub-left c =
    let ts = terms_of c.args.body.now in
    let d = nat_abs (to_z w64 (of_z w64 c.args.room)) in
    let few : d ≤ max_divisor * max_number = rw (to_z-of_z c.ranges.room) c.requires.pos_bound.1 in
    let st = stride c.args.readings.kept c.args.readings.first.now c.args.aims.now c.args.strides.now (terms_of c.args.body.now) in
    let sp = steps c.args.readings.kept c.args.readings.first.now c.args.aims.now c.args.strides.now (terms_of c.args.body.now) in
    let x : to_z w64 (of_z w64 c.share_of-part.result.taken) ≡ c.share_of-part.result.taken = search rules in
    room_fits d (number_at ts) st sp c.loop-i.i few c.loop-i.invariant.2 (x ∙ (taken_here c.args.readings.kept c.args.readings.first.now c.args.aims.now c.args.strides.now (terms_of c.args.body.now) d c.loop-i.i c.loop-i.invariant.2 c.term-term.ensures c.share_of-part.ensures).0)

pub loop-i-preserved : goal.loop-i-preserved
loop-i-preserved c =
    let ts = terms_of c.args.body.now in
    let d = nat_abs (to_z w64 (of_z w64 c.args.room)) in
    let few : d ≤ max_divisor * max_number = rw (to_z-of_z c.ranges.room) c.requires.pos_bound.1 in
    let st = stride c.args.readings.kept c.args.readings.first.now c.args.aims.now c.args.strides.now (terms_of c.args.body.now) in
    let sp = steps c.args.readings.kept c.args.readings.first.now c.args.aims.now c.args.strides.now (terms_of c.args.body.now) in
    let h = taken_here c.args.readings.kept c.args.readings.first.now c.args.aims.now c.args.strides.now (terms_of c.args.body.now) d c.loop-i.i c.loop-i.invariant.2 c.term-term.ensures c.share_of-part.ensures in
    let x : to_z w64 (of_z w64 c.share_of-part.result.taken) ≡ c.share_of-part.result.taken = search rules in
    let y : to_z w64 (of_z w64 c.share_of-part.result.rise) ≡ c.share_of-part.result.rise = search rules in (
      omega arith,
      refl,
      to_z-of_z (room_fits d (number_at ts) st sp c.loop-i.i few c.loop-i.invariant.2 (x ∙ h.0)) ∙ room_here d (number_at ts) st sp c.loop-i.i c.loop-i.invariant.2 (x ∙ h.0),
      to_z-of_z (total_fits d (number_at ts) st sp c.loop-i.i few (one c.args.readings.kept c.args.readings.first.now c.args.aims.now c.args.strides.now (terms_of c.args.body.now)) (small c.args.readings.kept c.args.readings.first.now c.args.aims.now c.args.strides.now (terms_of c.args.body.now) c.requires.small) c.loop-i.invariant.3 (y ∙ h.1))
          ∙ total_here d (number_at ts) st sp c.loop-i.i c.loop-i.invariant.3 (y ∙ h.1),
    )

pub returns : goal.returns
returns c =
    let ts = terms_of c.args.body.now in
    let d = nat_abs (to_z w64 (of_z w64 c.args.room)) in
    let few : d ≤ max_divisor * max_number = rw (to_z-of_z c.ranges.room) c.requires.pos_bound.1 in
    let st = stride c.args.readings.kept c.args.readings.first.now c.args.aims.now c.args.strides.now (terms_of c.args.body.now) in
    let sp = steps c.args.readings.kept c.args.readings.first.now c.args.aims.now c.args.strides.now (terms_of c.args.body.now) in
    let e : c.loop-i.i ≡ length ts = omega (arith, terms_length c.args.body.now) in
    c.loop-i.invariant.3 ∙ ap (λ (n : ℕ). pos (rise_below d (number_at ts) st sp n)) e
    ∙ ap (λ (x : ℤ). pos (rise_below (nat_abs x) (number_at ts) st sp (length ts))) (to_z-of_z c.ranges.room)
