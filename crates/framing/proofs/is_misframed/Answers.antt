-- Under two bytes, shorter than announced or too long: each branch is a case of the framing.
use native.Mathlib.Omega.{arith}
use Rattle.framing.proofs.FramingLaws.{too_few, file_short, by_length}
use Rattle.framing.proofs.is_misframed.Goals as goal

pub returns-then-input-lt2 : goal.returns-then-input-lt2
returns-then-input-lt2 c = too_few _ _ c.if-input-lt2.true

pub returns-then-input-unsigned_at : goal.returns-then-input-unsigned_at
returns-then-input-unsigned_at c = file_short _ _ c.if-input-lt2.false (omega (arith, c.if-input-unsigned_at.true, c.unsigned_at.ensures.0))

pub returns : goal.returns
returns c = by_length _ _ c.if-input-lt2.false (omega (arith, c.if-input-unsigned_at.false, c.unsigned_at.ensures.0))
