-- Every rule waits, and the readers are those of the masks; components come first, then whatever still waits.
use Rattle.std.proofs.lemmas.Result.{err_from_is_err_and}
use Rattle.words.proofs.Bits.{none_in}
use Rattle.reader.proofs.Published.{limited}
use Rattle.tables.specs.Tabled.{row_words}
use Rattle.run.proofs.StartLaws.{all_wait, way_offsets}
use Rattle.hastening.proofs.KeptLaws.{kept_some, lapped_on}
use Rattle.settling.proofs.follow.Goals as goal

pub fill_readers-requires : goal.fill_readers-requires
fill_readers-requires c = record { accepted_as = c.requires.accepted_as; offsets_of = way_offsets c.requires.some_way.way; variables_in_bounds = c.requires.variables_in_bounds; by_index = c.requires.by_index }

pub fill_bits-requires : goal.fill_bits-requires
fill_bits-requires c = (limited c.requires.accepted_as).few_rules

pub hasten-requires : goal.hasten-requires
hasten-requires c = record {
  accepted_as = c.requires.accepted_as;
  some_run = record {
    program = c.requires.some_way.program;
    reckoning = c.requires.some_way.reckoning;
    assigned = c.requires.some_way.assigned;
    run = all_wait _ _ c.requires.accepted_as c.requires.some_way.way _ c.fill_readers.ensures.readers_are _ _ (none_in row_words) c.fill_bits.ensures.by_index;
  };
  model_len = (c.requires.model_len, c.fill_bits.ensures.words_len_unchanged);
}

pub returns-in_err-hasten : goal.returns-in_err-hasten
returns-in_err-hasten c = let p = err_from_is_err_and c.from_residual.result c.from_residual.ensures.1 in rw p.1 (record { model_len_2 = c.hasten.ensures.model_len_2.0; ends_with = λ P R θ k. rw c.in_err-hasten.was at (c.hasten.ensures.run_lapped.after P R θ (all_wait _ _ c.requires.accepted_as k _ c.fill_readers.ensures.readers_are _ _ (none_in row_words) c.fill_bits.ensures.by_index)) })

pub solve-requires : goal.solve-requires
solve-requires c = record {
  some_run = kept_some (lapped_on c.hasten.ensures.run_lapped c.in_ok-hasten.was) (record {
    program = c.requires.some_way.program;
    reckoning = c.requires.some_way.reckoning;
    assigned = c.requires.some_way.assigned;
    run = all_wait _ _ c.requires.accepted_as c.requires.some_way.way _ c.fill_readers.ensures.readers_are _ _ (none_in row_words) c.fill_bits.ensures.by_index;
  });
  model_len = c.hasten.ensures.model_len_2.0;
  waiting_len = c.hasten.ensures.model_len_2.1;
}

pub returns : goal.returns
returns c = record {
  model_len_2 = c.solve.ensures.model_len_2;
  ends_with = λ P R θ k. c.solve.ensures.ends_with P R θ ((lapped_on c.hasten.ensures.run_lapped c.in_ok-hasten.was).on P R θ
      (all_wait _ _ c.requires.accepted_as k _ c.fill_readers.ensures.readers_are _ _ (none_in row_words) c.fill_bits.ensures.by_index));
}
