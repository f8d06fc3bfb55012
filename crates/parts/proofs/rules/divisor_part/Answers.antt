-- The four bytes after the header, or what the value has of them.
use native.Mathlib.Omega.{arith}
use Rattle.parts.proofs.Bytes.{divisor_whole, divisor_cut}
use Rattle.parts.proofs.rules.divisor_part.Goals as goal

pub returns-then-value-lt8 : goal.returns-then-value-lt8
returns-then-value-lt8 c = divisor_cut c.args.value.now c.requires.1 c.requires.0 (omega arith)

pub returns : goal.returns
returns c = divisor_whole c.args.value.now c.requires.1 (omega arith)
