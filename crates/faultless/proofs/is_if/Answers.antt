-- Its count, then its literals.
use native.Mathlib.Omega.{arith}
use Rattle.program.proofs.Bodies.{terms_length}
use Rattle.faultless.proofs.TermLaws.{says_no, none_before}
use Rattle.faultless.proofs.BodyLaws.{if_body}
use Rattle.faultless.proofs.is_if.Goals as goal

pub are_literals-requires : goal.are_literals-requires
are_literals-requires c = (c.requires, λ j h. none_before h)

pub returns-in-1-to-16 : goal.returns-in-1-to-16
returns-in-1-to-16 c = λ e. if_body _ _ (omega (arith, terms_length c.args.body.now)) (omega (arith, terms_length c.args.body.now)) (c.are_literals.ensures e)

pub returns-in_default : goal.returns-in_default
returns-in_default c = says_no

pub returns-in_default-2 : goal.returns-in_default-2
returns-in_default-2 c = says_no
