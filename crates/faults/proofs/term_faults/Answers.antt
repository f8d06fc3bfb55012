-- Each test is that of its refusal, at term i.
use Rattle.faults.proofs.FaultLaws.{term_faults}
use Rattle.faults.proofs.term_faults.Goals as goal

pub returns : goal.returns
returns c = term_faults _ _ _ _ _ c.term-t.ensures c.is_wrong_term.ensures c.is_outside_term.ensures
    c.is_undeclared.ensures c.is_repeated.ensures c.is_negative.ensures
