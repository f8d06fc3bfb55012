-- Its count, then its terms.
use native.Mathlib.Omega.{arith}
use Rattle.program.proofs.Bodies.{terms_length}
use Rattle.faultless.proofs.TermLaws.{says_no}
use Rattle.faultless.proofs.BodyLaws.{sum_body}
use Rattle.faultless.proofs.is_sum.Goals as goal

pub returns-then-body-gt-MAX_TERMS : goal.returns-then-body-gt-MAX_TERMS
returns-then-body-gt-MAX_TERMS c = says_no

pub returns : goal.returns
returns c = λ e. sum_body _ _ (omega (arith, terms_length c.args.body.now)) (c.are_weights.ensures e)
