-- Its count, then its term.
use native.Mathlib.Omega.{arith}
use Rattle.program.proofs.Bodies.{terms_length}
use Rattle.faultless.proofs.TermLaws.{says_no}
use Rattle.faultless.proofs.BodyLaws.{size_body}
use Rattle.faultless.proofs.is_size.Goals as goal

pub returns-then-body-ne1 : goal.returns-then-body-ne1
returns-then-body-ne1 c = says_no

pub returns : goal.returns
returns c = λ e. size_body _ _ (c.are_bare.ensures e) (omega (arith, terms_length c.args.body.now))
