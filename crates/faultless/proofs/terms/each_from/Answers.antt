-- Each turn adds the term to those that pass the test and are new.
use mathlib.Core.Path.{refl}
use native.Mathlib.Omega.{arith}
use Rattle.program.proofs.Bodies.{terms_length}
use Rattle.faultless.proofs.TermLaws.{between_none, between_more, between_all}
use Rattle.faultless.proofs.terms.each_from.Goals as goal

pub loop-i-init : goal.loop-i-init
loop-i-init g c = (c.requires.seen_len.0, c.requires.seen_len.1, between_none _ _)

pub is_new-requires-clause-seen_len : goal.is_new-requires-clause-seen_len
is_new-requires-clause-seen_len g c = (c.loop-i.invariant.0, c.loop-i.invariant.1)

pub loop-i-preserved : goal.loop-i-preserved
loop-i-preserved g c = let m = c.if-not-is_new.ensures.new refl in
    (c.is_new.ensures.seen_len_2, m.1, between_more _ _ _ c.loop-i.invariant.2 (m.0, c.if-not-passes.ensures))

pub returns : goal.returns
returns g c = λ e. between_all _ _ c.loop-i.i _ (omega (arith, terms_length c.args.body.now)) c.loop-i.invariant.2
