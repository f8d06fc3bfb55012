-- Invariant: the numbers below i are in.
use mathlib.Core.Path.{◌≡◌, refl, ap, ◌∙◌}
use mathlib.Core.Bool.{Bool, ◌||◌}
use native.Mathlib.Omega.{arith}
use lib.Dec.{eqb}
use Rattle.words.specs.Bit.{has}
use Rattle.words.proofs.Bits.{fill_none, fill_more}
use Rattle.words.proofs.fill_bits.Goals as goal

pub loop-i-init : goal.loop-i-init
loop-i-init c = (omega arith, refl, fill_none c.args.words.now)

pub loop-i-preserved : goal.loop-i-preserved
loop-i-preserved c = (
  omega arith,
  c.add_bit.ensures.words_len_unchanged ∙ c.loop-i.invariant.1,
  λ j. c.add_bit.ensures.by_index j ∙ ap (λ (b : Bool). eqb j c.loop-i.i || b) (c.loop-i.invariant.2 j) ∙ fill_more (has c.args.words.now j) j c.loop-i.i,
)

pub returns : goal.returns
returns c = let e : c.loop-i.i ≡ c.args.n = omega arith in
    record { words_len_unchanged = c.loop-i.invariant.1; by_index = rw e at c.loop-i.invariant.2 }
