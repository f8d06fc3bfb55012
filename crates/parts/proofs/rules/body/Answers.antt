-- What follows the header; of form 8 what follows the divisor.
use native.Mathlib.Omega.{arith}
use Rattle.parts.proofs.Bytes.{undivided_body}
use Rattle.parts.proofs.rules.body.Goals as goal

pub returns : goal.returns
returns c = undivided_body c.args.value.now c.if-value-eq8.false (omega arith)
