-- The stretch that is handed on is the value.
use mathlib.Core.Path.{refl}
use Rattle.parts.proofs.Bytes.{value_part}
use Rattle.parts.proofs.places.value_at.Goals as goal

pub returns : goal.returns
returns c = value_part c.args.file.now _ refl c.unsigned_at-len.ensures.0
