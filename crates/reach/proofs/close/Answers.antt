-- Invariant: the rounds of the variables below k are done; a step does that of k.
use mathlib.Core.Path.{◌≡◌, refl, ◌∙◌}
use native.Mathlib.Omega.{arith}
use Rattle.reach.proofs.StepLaws.{none_done, one_done, steps_done, steps_long}
use Rattle.reach.proofs.close.Goals as goal

pub loop-k-init : goal.loop-k-init
loop-k-init c = (omega arith, refl, c.requires, none_done _ _)

pub step-requires : goal.step-requires
step-requires c = tt

pub loop-k-preserved : goal.loop-k-preserved
loop-k-preserved c = let same = steps_long c.step.ensures.steps in (
  omega arith,
  same ∙ c.loop-k.invariant.1,
  record { few = c.loop-k.invariant.2.few; room = omega (arith, same, c.loop-k.invariant.2.room) },
  one_done c.loop-k.invariant.3 (c.step.ensures.round (steps_done c.loop-k.invariant.2 (omega arith) c.step.ensures.steps)),
)

pub shape_of-sets : goal.shape_of-sets
shape_of-sets c = c.loop-k.invariant.1

pub returns : goal.returns
returns c = let e : c.loop-k.k ≡ c.args.variables = omega arith in
    record { sets_len_unchanged = c.loop-k.invariant.1; rounds = record { turn = rw e at c.loop-k.invariant.3.turn } }
