-- Its count, its first term, then its literals.
use borrow.Author.Tests.{not-false}
use native.Mathlib.Omega.{arith}
use Rattle.program.proofs.Bodies.{terms_length}
use Rattle.faultless.proofs.TermLaws.{says_no, none_before}
use Rattle.faultless.proofs.BodyLaws.{carry_body}
use Rattle.faultless.proofs.is_carry.Goals as goal

pub returns-in_default : goal.returns-in_default
returns-in_default c = says_no

pub returns-in_default-2 : goal.returns-in_default-2
returns-in_default-2 c = says_no

pub returns-then-not-is_bare : goal.returns-then-not-is_bare
returns-then-not-is_bare c = says_no

pub is_new-requires : goal.is_new-requires
is_new-requires c = record { i_in_bounds = omega arith; seen_len = (c.requires, λ j h. none_before h) }

pub returns-then-not-is_new : goal.returns-then-not-is_new
returns-then-not-is_new c = says_no

pub are_literals-requires : goal.are_literals-requires
are_literals-requires c = (c.is_new.ensures.seen_len_2, (c.is_new.ensures.new (not-false _ c.if-not-is_new.false-raw)).1)

pub returns : goal.returns
returns c = let n = c.is_new.ensures.new (not-false _ c.if-not-is_new.false-raw) in
    let l = terms_length c.args.body.now in
    λ e. carry_body _ _ (omega arith) (omega arith) (c.is_bare.ensures (not-false _ c.if-not-is_bare.false-raw)) n.0 (c.are_literals.ensures e)
