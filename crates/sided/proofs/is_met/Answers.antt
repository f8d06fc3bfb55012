-- A literal is read on the side of its op.
use mathlib.Core.Path.{◌≡◌, ap, ◌∙◌}
use lib.Dec.{eqb}
use mir.Syntax.{w64}
use mir.Val.{to_z, of_z}
use Rattle.program.specs.declared.Term.{Term}
use Rattle.program.specs.Program.{terms_of}
use Rattle.program.specs.Evaluate.{holds}
use Rattle.sided.specs.Sides.{on_side}
use Rattle.sided.proofs.Sided.{asked_is}
use borrow.Author.Rules.{rules}
use Rattle.sided.proofs.is_met.Goals as goal

pub returns : goal.returns
returns c form side = let ts = terms_of c.args.body.now in
    let v : to_z w64 (of_z w64 c.read.result) ≡ c.read.result = search rules in
    asked_is c.args.sides.now form side ts c.args.i
    (c.holds.ensures ∙ ap (holds c.term-term.result) (v ∙ c.read.ensures) ∙ ap (λ (t : Term). holds t (on_side c.args.sides.now (eqb t.op 2) t.variable)) c.term-term.ensures)
