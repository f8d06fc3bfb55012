-- The outcome for the rules is what reading answers once the fields are whole.
use Rattle.reader.proofs.ReadLaws.{judged_valid, judged_offending}
use Rattle.reader.proofs.judge_rules.Goals as goal

pub returns-in-None : goal.returns-in-None
returns-in-None c = judged_valid _ _ _ c.requires c.judge.ensures c.in-None.is

pub returns-in-Some : goal.returns-in-Some
returns-in-Some c = judged_offending _ _ _ c.requires c.judge.ensures _ c.in-Some.is
