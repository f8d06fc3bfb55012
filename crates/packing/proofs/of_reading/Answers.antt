-- By the answer: its word and its numbers.
use mathlib.Core.Path.{refl}
use Rattle.packing.proofs.of_reading.Goals as goal

pub returns-in-Ok : goal.returns-in-Ok
returns-in-Ok c = rw c.in-Ok.is refl

pub returns-in-Err : goal.returns-in-Err
returns-in-Err c = rw (c.in-Err.is, ← c.number_of.ensures) c.with_two.ensures
