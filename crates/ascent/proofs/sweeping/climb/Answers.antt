-- The values stay on the way from sweep to sweep, of which there are few; a sweep without a raise is the end, and so are values that have all arrived.
use native.Mathlib.Omega.{arith}
use Rattle.reader.proofs.Published.{limited}
use Rattle.ascent.proofs.ClimbLaws.{some_on, swept_raises, swept_none, climbing_least, all_arrived}
use Rattle.ascent.proofs.sweeping.climb.Goals as goal

pub loop-counts-init : goal.loop-counts-init
loop-counts-init c = (omega arith, c.requires.sides_len, λ P R θ others a k. k)

pub sweep-swept-requires : goal.sweep-swept-requires
sweep-swept-requires c = record { accepted_as = c.requires.accepted_as; some_climbing = some_on c.requires.some_climbing c.loop-counts.invariant.2; sides_len = c.loop-counts.invariant.1 }

pub returns-in_default : goal.returns-in_default
returns-in_default c = record {
  sides_len_2 = c.sweep-swept.ensures.sides_len_2;
  climb_is = λ P R θ others a k.
      let e = c.sweep-swept.ensures.sweep_up_is P R θ others a (c.loop-counts.invariant.2 P R θ others a k) in
      swept_none P R θ others c.args.stops.now c.args.full c.args.counts.rules c.sweep-swept.new.sides e c.in_default.is;
}

pub returns-then-raises-eq0 : goal.returns-then-raises-eq0
returns-then-raises-eq0 c = record {
  sides_len_2 = c.sweep-swept.ensures.sides_len_2;
  climb_is = λ P R θ others a k.
      let e = c.sweep-swept.ensures.sweep_up_is P R θ others a (c.loop-counts.invariant.2 P R θ others a k) in
      let u = swept_raises P R θ others c.args.stops.now c.args.full c.args.counts.rules c.sweep-swept.new.sides e c.in-Ok.is in
      climbing_least u.climbing (u.met c.if-raises-eq0.true);
}

pub have_arrived-requires : goal.have_arrived-requires
have_arrived-requires c = let f = limited c.requires.accepted_as in (f.inside, f.few_variables)

pub returns-then-have_arrived : goal.returns-then-have_arrived
returns-then-have_arrived c = record {
  sides_len_2 = c.sweep-swept.ensures.sides_len_2;
  climb_is = λ P R θ others a k.
      let e = c.sweep-swept.ensures.sweep_up_is P R θ others a (c.loop-counts.invariant.2 P R θ others a k) in
      let u = swept_raises P R θ others c.args.stops.now c.args.full c.args.counts.rules c.sweep-swept.new.sides e c.in-Ok.is in
      all_arrived c.requires.accepted_as a u.climbing c.if-full.true (c.have_arrived.ensures c.if-have_arrived.true);
}

pub overflow_add-done : goal.overflow_add-done
overflow_add-done c = let p = c.pays.ensures c.loop-counts-test.true in
    omega (arith, p)

pub loop-counts-smaller : goal.loop-counts-smaller
loop-counts-smaller c = let p = c.pays.ensures c.loop-counts-test.true in
    omega (arith, p)

pub loop-counts-preserved : goal.loop-counts-preserved
loop-counts-preserved c = let e = c.sweep-swept.ensures.sweep_up_is _ _ _ _ c.requires.some_climbing.accepts (c.loop-counts.invariant.2 _ _ _ _ c.requires.some_climbing.accepts c.requires.some_climbing.climbing) in
    let u = swept_raises c.requires.some_climbing.program c.requires.some_climbing.reckoning c.requires.some_climbing.assigned c.requires.some_climbing.others c.args.stops.now c.args.full c.args.counts.rules c.sweep-swept.new.sides e c.in-Ok.is in (
      omega (arith, u.few, (limited c.requires.accepted_as).few_rules),
      c.sweep-swept.ensures.sides_len_2,
      λ P R θ others a k.
          let e = c.sweep-swept.ensures.sweep_up_is P R θ others a (c.loop-counts.invariant.2 P R θ others a k) in
          (swept_raises P R θ others c.args.stops.now c.args.full c.args.counts.rules c.sweep-swept.new.sides e c.in-Ok.is).climbing,
    )

pub returns : goal.returns
returns c = record { sides_len_2 = c.loop-counts.invariant.1; climb_is = λ P R θ others a k. (c.loop-counts.invariant.2 P R θ others a k).progress }
