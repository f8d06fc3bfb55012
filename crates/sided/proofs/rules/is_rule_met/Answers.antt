-- Forms 6 and 7 ask every literal; the others have none.
use Rattle.program.specs.Program.{rule_of, term_form}
use Rattle.sided.proofs.Amounts.{asked_in, asks_nothing}
use Rattle.sided.proofs.rules.is_rule_met.Goals as goal

pub returns-then-form : goal.returns-then-form
returns-then-form c side = let form = term_form (rule_of c.args.value.now).form in
    asked_in c.args.value.now c.body.ensures c.args.sides.now form side (c.all_hold.ensures form side)

pub returns : goal.returns
returns c side = asks_nothing c.args.value.now _ c.requires.evaluable c.if-form.false
