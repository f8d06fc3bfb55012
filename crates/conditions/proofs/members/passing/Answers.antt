-- One variable after the other, for any test that computes what is asked.
use mathlib.Core.Path.{refl}
use Rattle.words.specs.Bit.{word_count}
use Rattle.words.proofs.Bits.{none_in}
use Rattle.conditions.proofs.MemberLaws.{below_none, below_one}
use Rattle.conditions.proofs.members.passing.Goals as goal

pub loop-v-init : goal.loop-v-init
loop-v-init g c = (refl, λ p k. below_none _ (none_in word_count))

pub loop-v-preserved : goal.loop-v-preserved
loop-v-preserved g c = (
  c.add_if.ensures.words_len,
  λ p k. below_one p c.loop-v.v (k c.loop-v.v c.loop-v-test.true c.passes.result c.passes.ensures) (c.loop-v.invariant.1 p k) c.add_if.ensures.by_index,
)
