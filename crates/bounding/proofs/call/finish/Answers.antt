-- The tables reach as far as the file has rules.
use Rattle.reader.proofs.Published.{limited}
use Rattle.bounding.proofs.call.finish.Goals as goal

pub finish_in-requires : goal.finish_in-requires
finish_in-requires c = record {
  accepted_as = c.requires.accepted_as;
  rules_in_bounds = (c.if-counts-le-FEW.true, c.if-counts-le-FEW.true);
  fits_ranges = c.requires.fits_ranges;
  at_others = c.requires.at_others;
  at_stops = c.requires.at_stops;
  on_the_way = c.requires.on_the_way;
  model_len = c.requires.model_len;
}

pub finish_in-requires-2 : goal.finish_in-requires-2
finish_in-requires-2 c = let n = (limited c.requires.accepted_as).few_rules in record {
  accepted_as = c.requires.accepted_as;
  rules_in_bounds = (n, n);
  fits_ranges = c.requires.fits_ranges;
  at_others = c.requires.at_others;
  at_stops = c.requires.at_stops;
  on_the_way = c.requires.on_the_way;
  model_len = c.requires.model_len;
}
