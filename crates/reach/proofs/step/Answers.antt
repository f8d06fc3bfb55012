-- There is no round where k is none of so many variables that have sets; else it is done.
use native.Mathlib.Omega.{arith}
use Rattle.reach.specs.Stepping.{stepped, no_round}
use Rattle.reach.proofs.StepLaws.{unanswered, stepped_round}
use Rattle.reach.proofs.step.Goals as goal

pub returns-then-variables-gt-MAX_VARIABLES : goal.returns-then-variables-gt-MAX_VARIABLES
returns-then-variables-gt-MAX_VARIABLES c = record { steps = no_round (λ l h. omega (arith, l.few)); round = unanswered }

pub returns-then-sets-variables : goal.returns-then-sets-variables
returns-then-sets-variables c = record { steps = no_round (λ l h. omega (arith, l.room)); round = unanswered }

pub returns-then-variables-k : goal.returns-then-variables-k
returns-then-variables-k c = record { steps = no_round (λ l h. omega arith); round = unanswered }

pub round-requires : goal.round-requires
round-requires c = (record { few = omega arith; room = omega arith }, omega arith)

pub shape_of-sets : goal.shape_of-sets
shape_of-sets c = c.round.ensures.long

pub returns : goal.returns
returns c = record { steps = stepped (record { few = omega arith; room = omega arith }) (omega arith) c.round.ensures; round = λ e. stepped_round (omega arith) (omega arith) c.round.ensures }
