-- The tables are those of the reduct.
use Rattle.program.specs.Readings.{valued}
use Rattle.reader.proofs.Published.{reads_accepts}
use Rattle.meaning.specs.Reduct.{reduct}
use Rattle.solving.proofs.SolvingLaws.{reduct_way}
use Rattle.solving.proofs.finish_in.Goals as goal

pub settle-requires : goal.settle-requires
settle-requires c = let a = reads_accepts c.requires.accepted_as in record {
  accepted_as = c.requires.accepted_as;
  some_way = record {
    program = a.meant;
    reckoning = reduct a.meant;
    assigned = valued c.args.assigned.now;
    way = reduct_way c.fill_tables.ensures c.args.assigned.now c.args.model.now c.requires.within c.requires.progress a.meant a.accepts;
  };
  model_len = c.requires.model_len;
}

pub returns : goal.returns
returns c = record { model_len_2 = c.settle.ensures.model_len_2; ends_with = λ P x. c.settle.ensures.ends_with P _ _ (reduct_way c.fill_tables.ensures c.args.assigned.now c.args.model.now c.requires.within c.requires.progress P x) }
