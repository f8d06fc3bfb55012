-- The digits before the last are written first, by the function itself on a smaller number.
use Rattle.std.proofs.Common.{arith, sym}
use Rattle.text.proofs.OutputLaws.{appends_as, appends_both}
use Rattle.text.proofs.DecimalLaws.{decimal_one, decimal_more, decimal_short}
use Rattle.text.proofs.+put_decimal.Goals as goal

pub returns-then-n-lt10-clause-appends : goal.returns-then-n-lt10-clause-appends
returns-then-n-lt10-clause-appends t c = appends_as (sym (decimal_one c.args.n (omega arith))) c.put.ensures

pub returns-clause-appends : goal.returns-clause-appends
returns-clause-appends t c =
    appends_as (sym (decimal_more c.args.n (omega arith))) (appends_both c.put_decimal-next.ensures.appends c.put-2.ensures)

pub returns-clause-upper_bound : goal.returns-clause-upper_bound
returns-clause-upper_bound t c =
    let w = appends_as (sym (decimal_more c.args.n (omega arith))) (appends_both c.put_decimal-next.ensures.appends c.put-2.ensures) in
    omega (arith, w.next, decimal_short 19 c.args.n (omega arith))
