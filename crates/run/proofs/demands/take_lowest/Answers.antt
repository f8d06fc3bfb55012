-- The least bit of the set is dropped, or there is none.
use mathlib.Core.Path.{◌∙◌}
use native.Mathlib.Omega.{arith}
use Rattle.words.specs.Bit.{has}
use Rattle.words.proofs.Nexts.{next_at_is, next_none}
use Rattle.run.proofs.StepLaws.{lowest_taken, none_taken}
use Rattle.run.proofs.demands.take_lowest.Goals as goal

pub returns-in_default : goal.returns-in_default
returns-in_default c = record { waiting_len = c.requires; takes = none_taken c.requires (next_none (has c.args.waiting.now) 0 _ c.next_bit.ensures c.in_default.is) }

pub drop_bit-requires : goal.drop_bit-requires
drop_bit-requires c = omega (arith, c.requires, (next_at_is (has c.args.waiting.now) 0 _ c.next_bit.ensures c.in-Some.is).below)

pub returns : goal.returns
returns c = record {
  waiting_len = c.drop_bit.ensures.words_len_unchanged ∙ c.requires;
  takes = lowest_taken c.requires
      (next_at_is (has c.args.waiting.now) 0 _ c.next_bit.ensures c.in-Some.is) c.drop_bit.ensures.by_index;
}
