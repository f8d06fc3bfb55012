-- Its count, then its terms.
use native.Mathlib.Omega.{arith}
use Rattle.program.proofs.Bodies.{terms_length}
use Rattle.faultless.proofs.TermLaws.{says_no}
use Rattle.faultless.proofs.BodyLaws.{extreme_body}
use Rattle.faultless.proofs.is_extreme.Goals as goal

pub returns-in-1-to-16 : goal.returns-in-1-to-16
returns-in-1-to-16 c = λ e. extreme_body _ _ (c.are_bare.ensures e) (omega (arith, terms_length c.args.body.now)) (omega (arith, terms_length c.args.body.now))

pub returns-in_default : goal.returns-in_default
returns-in_default c = says_no

pub returns-in_default-2 : goal.returns-in_default-2
returns-in_default-2 c = says_no
