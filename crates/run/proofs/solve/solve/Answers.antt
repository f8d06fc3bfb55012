-- Each raise keeps the values at or before every model and brings one of them nearer to its far end.
use mathlib.Core.Path.{◌≡◌}
use mir.Syntax.{w64}
use mir.Val.{to_z, of_z}
use borrow.Author.Rules.{rules}
use Rattle.run.proofs.SolveLaws.{run_ready, run_small, run_stepped, run_ended, run_done, run_rule, run_field, no_lift, lift_on, lift_nearer}
use Rattle.run.proofs.solve.solve.Goals as goal

pub loop-i-init : goal.loop-i-init
loop-i-init c = (λ P R θ k. k, c.requires.model_len, c.requires.waiting_len)

pub step-next-requires : goal.step-next-requires
step-next-requires c = let k = c.loop-i.invariant.0 _ _ _ c.requires.some_run.run in
    record { ready = run_ready k; small = run_small k; waiting_len = c.loop-i.invariant.2 }

pub returns-in_default : goal.returns-in_default
returns-in_default c = record { model_len_2 = c.loop-i.invariant.1; waiting_len_2 = c.step-next.ensures.waiting_len_2; ends_with = λ P R θ k₀. let k = c.loop-i.invariant.0 P R θ k₀ in run_done k (run_ended k _ c.step-next.ensures.stepped c.in_default.is) }

pub head_of-head-requires : goal.head_of-head-requires
head_of-head-requires c = let k = c.loop-i.invariant.0 _ _ _ c.requires.some_run.run in
    let x = run_stepped k _ c.step-next.ensures.stepped c.in-Some.is in
    run_rule k _ x

pub variable-x-requires : goal.variable-x-requires
variable-x-requires c = let k = c.loop-i.invariant.0 _ _ _ c.requires.some_run.run in
    let x = run_stepped k _ c.step-next.ensures.stepped c.in-Some.is in
    run_field k _ x c.head_of-head.ensures

pub raise-requires : goal.raise-requires
raise-requires c = record { model_len = c.loop-i.invariant.1; waiting_len = c.step-next.ensures.waiting_len_2 }

pub returns-then-not-raise : goal.returns-then-not-raise
returns-then-not-raise c = let z : to_z w64 (of_z w64 c.in-Some.a) ≡ c.in-Some.a = search rules in
    record {
      model_len_2 = c.raise.ensures.model_len_2;
      waiting_len_2 = c.raise.ensures.waiting_len_2;
      ends_with = λ P R θ k₀. let k = c.loop-i.invariant.0 P R θ k₀ in no_lift k _ (run_stepped k _ c.step-next.ensures.stepped c.in-Some.is) c.head_of-head.ensures c.variable-x.ensures z
          c.raise.new.model c.raise.new.waiting c.raise.result c.raise.ensures.lifted c.if-not-raise.true;
    }

pub loop-i-smaller : goal.loop-i-smaller
loop-i-smaller c = let k = c.loop-i.invariant.0 _ _ _ c.requires.some_run.run in
    let x = run_stepped k _ c.step-next.ensures.stepped c.in-Some.is in
    let z : to_z w64 (of_z w64 c.in-Some.a) ≡ c.in-Some.a = search rules in
    lift_nearer k _ x c.head_of-head.ensures c.variable-x.ensures z
    c.raise.new.model c.raise.new.waiting c.raise.result c.raise.ensures.lifted c.if-not-raise.false c.step-next.ensures.inside c.loop-i.invariant.1

pub loop-i-preserved : goal.loop-i-preserved
loop-i-preserved c = let z : to_z w64 (of_z w64 c.in-Some.a) ≡ c.in-Some.a = search rules in (
  λ P R θ k₀.
      let k = c.loop-i.invariant.0 P R θ k₀ in
      lift_on k _ (run_stepped k _ c.step-next.ensures.stepped c.in-Some.is) c.head_of-head.ensures c.variable-x.ensures z
      c.raise.new.model c.raise.new.waiting c.raise.result c.raise.ensures.lifted c.if-not-raise.false c.step-next.ensures.inside c.loop-i.invariant.1,
  c.raise.ensures.model_len_2,
  c.raise.ensures.waiting_len_2,
)
