-- The word of a refusal, its number and its place.
use Rattle.packing.proofs.of_denied.Goals as goal

pub returns : goal.returns
returns c = rw (← c.denial_number.ensures, ← c.denial_place.ensures) c.with_two.ensures
