-- The tables reach as far as the file has rules.
use Rattle.reader.proofs.Published.{limited}
use Rattle.solving.proofs.finish.Goals as goal

pub finish_in-requires : goal.finish_in-requires
finish_in-requires c = record {
  accepted_as = c.requires.accepted_as;
  rules_in_bounds = (c.if-counts-le-FEW.true, c.if-counts-le-FEW.true);
  within = c.requires.within;
  progress = c.requires.progress;
  model_len = c.requires.model_len;
}

pub finish_in-requires-2 : goal.finish_in-requires-2
finish_in-requires-2 c = let n = (limited c.requires.accepted_as).few_rules in record {
  accepted_as = c.requires.accepted_as;
  rules_in_bounds = (n, n);
  within = c.requires.within;
  progress = c.requires.progress;
  model_len = c.requires.model_len;
}
