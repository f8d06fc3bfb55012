-- The tests stand in the order of the refusals' numbers.
use mathlib.Core.Path.{refl}
use Rattle.faults.proofs.Faults.first.Goals as goal

pub returns-then-self-2 : goal.returns-then-self-2
returns-then-self-2 c = simp (c.if-self.false, c.if-self-2.true) refl
