-- What follows the divisor, or the end of the value.
use native.Mathlib.Omega.{arith}
use Rattle.parts.proofs.Bytes.{divided_body, body_past}
use Rattle.parts.proofs.rules.divided_body.Goals as goal

pub returns-then-len-lt8 : goal.returns-then-len-lt8
returns-then-len-lt8 c = body_past c.args.value.now c.requires.1 (omega arith)

pub returns : goal.returns
returns c = divided_body c.args.value.now c.requires.1 (omega arith)
