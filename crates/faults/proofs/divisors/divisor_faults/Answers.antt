-- Of no term nothing is wrong, and of one what its two tests say.
use native.Mathlib.Omega.{arith}
use Rattle.program.proofs.Bodies.{terms_length}
use Rattle.faults.proofs.FaultLaws.{divisor_absent, divisor_one}
use Rattle.faults.proofs.divisors.divisor_faults.Goals as goal

pub returns-then-part-lt4 : goal.returns-then-part-lt4
returns-then-part-lt4 c = let n = terms_length c.args.part.now in
    divisor_absent _ (omega arith) c.none.ensures

pub returns : goal.returns
returns c = let n = terms_length c.args.part.now in
    divisor_one _ (omega (arith, c.requires)) c.term-t.ensures c.is_wrong_divisor.ensures c.is_outside_divisor.ensures
