-- Forms 6 and 7 ask every literal; the others have none.
use native.Mathlib.Omega.{arith}
use Rattle.program.specs.Program.{terms_of}
use Rattle.program.proofs.Gives.{plain_hold}
use Rattle.evaluation.proofs.Gives.{no_literals}
use Rattle.evaluation.proofs.rules.is_met.Goals as goal

pub returns-in-0-to-5 : goal.returns-in-0-to-5
returns-in-0-to-5 c = let n = no_literals c.args.form (omega arith) (omega arith) in
    plain_hold (terms_of c.args.body.now) _ _ (c.requires.plain n)
