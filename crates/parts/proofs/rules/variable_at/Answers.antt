-- The term at position i of the body is that of the rule.
use mathlib.Core.Path.{ap}
use native.Mathlib.Omega.{arith}
use Rattle.program.specs.declared.Term.{Term}
use Rattle.parts.proofs.Bytes.{term_handed}
use Rattle.parts.proofs.rules.variable_at.Goals as goal

pub term-t-requires : goal.term-t-requires
term-t-requires c = omega (arith, c.body.ensures.many)

pub returns : goal.returns
returns c = ap (λ (t : Term). t.variable) (term_handed c.args.value.now c.args.i c.body.ensures c.term-t.ensures)
