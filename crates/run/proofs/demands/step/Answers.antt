-- Invariant: the rules that left the set are met; the lowest that demands more is the answer.
use mathlib.Core.Path.{◌≡◌}
use mir.Syntax.{w64}
use mir.Val.{to_z, of_z}
use Rattle.words.specs.Bit.{has}
use Rattle.run.proofs.RunLaws.{reckons_demanded}
use Rattle.run.proofs.StepLaws.{takes_at, takes_none, demands_more, demands_enough, none_waiting, dropped_inside, dropped_met, taken_less, taken_raise, taken_stands, taken_rule}
use borrow.Author.Rules.{rules}
use Rattle.run.proofs.demands.step.Goals as goal

pub loop-i-init : goal.loop-i-init
loop-i-init c = (c.requires.waiting_len, λ j e. e, λ P R θ k a o. o)

pub take_lowest-requires : goal.take_lowest-requires
take_lowest-requires c = c.loop-i.invariant.0

pub returns-in_default : goal.returns-in_default
returns-in_default c = let n = takes_none (has c.loop-i.waiting) (has c.take_lowest.new.waiting) c.take_lowest.ensures.takes c.in_default.is in
    record { waiting_len_2 = c.take_lowest.ensures.waiting_len; inside = λ j e. c.loop-i.invariant.1 j (n.inside j e); stepped = λ P R θ p a o. none_waiting P R θ _ p.accepts (c.loop-i.invariant.2 P R θ p a o) n }

pub look-found-requires : goal.look-found-requires
look-found-requires c = let k = takes_at (has c.loop-i.waiting) (has c.take_lowest.new.waiting) c.take_lowest.ensures.takes c.in-Some.is in
    record { some_rule = taken_stands k c.requires.ready c.loop-i.invariant.1; small = c.requires.small }

pub returns-in-Some-found : goal.returns-in-Some-found
returns-in-Some-found c = let k = takes_at (has c.loop-i.waiting) (has c.take_lowest.new.waiting) c.take_lowest.ensures.takes c.in-Some.is in
    let z : to_z w64 (of_z w64 c.in-Some-found.a) ≡ c.in-Some-found.a = search rules in record {
      waiting_len_2 = c.take_lowest.ensures.waiting_len;
      inside = λ j e. c.loop-i.invariant.1 j (dropped_inside k.dropped j e);
      stepped = λ P R θ p a o.
          let h = taken_rule k c.requires.ready c.loop-i.invariant.1 p.accepts in
          rw z (taken_raise k P R θ _ (c.loop-i.invariant.2 P R θ p a o) h
          (demands_more P R θ _ _ (reckons_demanded p c.args.model.now a _ h (c.look-found.ensures P (p.stands _ h))) c.in-Some-found.is));
    }

pub loop-i-smaller : goal.loop-i-smaller
loop-i-smaller c = taken_less (takes_at (has c.loop-i.waiting) (has c.take_lowest.new.waiting) c.take_lowest.ensures.takes c.in-Some.is)

pub loop-i-preserved : goal.loop-i-preserved
loop-i-preserved c = let k = takes_at (has c.loop-i.waiting) (has c.take_lowest.new.waiting) c.take_lowest.ensures.takes c.in-Some.is in (
  c.take_lowest.ensures.waiting_len,
  λ j e. c.loop-i.invariant.1 j (dropped_inside k.dropped j e),
  λ P R θ p a o.
      let h = taken_rule k c.requires.ready c.loop-i.invariant.1 p.accepts in
      dropped_met k.dropped P R θ _ (c.loop-i.invariant.2 P R θ p a o)
      (demands_enough P R θ _ _ (reckons_demanded p c.args.model.now a _ h (c.look-found.ensures P (p.stands _ h))) c.in_default-found.is),
)
