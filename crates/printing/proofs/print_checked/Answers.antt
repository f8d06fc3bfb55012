-- The report has room for every entry, so its lines are those of the answer's counts.
use native.Mathlib.Omega.{arith}
use Rattle.printing.proofs.PrintLaws.{entries_fit, told}
use Rattle.printing.proofs.print_checked.Goals as goal

pub put_answer-requires : goal.put_answer-requires
put_answer-requires c = let f = entries_fit c.check-verdict.ensures.checks c.check-verdict.ensures.demands in (omega (arith, f), f)

pub returns : goal.returns
returns c = told c.check-verdict.ensures.checks (omega (arith, entries_fit c.check-verdict.ensures.checks c.check-verdict.ensures.demands)) (c.put_answer.ensures.appends, c.put_answer.ensures.upper_bound)
