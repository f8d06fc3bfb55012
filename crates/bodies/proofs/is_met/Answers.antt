-- Op by op: the test of the number at the position's value is that of `holds`.
use mathlib.Core.Path.{◌≡◌, ap, ap₂, ◌∙◌}
use mir.Syntax.{w64}
use mir.Val.{to_z, of_z}
use Rattle.program.specs.declared.Term.{Term}
use Rattle.program.specs.Program.{terms_of}
use Rattle.program.specs.Evaluate.{holds}
use Rattle.bodies.proofs.Loops.{reading_is}
use borrow.Author.Rules.{rules}
use Rattle.bodies.proofs.is_met.Goals as goal

pub returns : goal.returns
returns c = let ts = terms_of c.args.body.now in
    let v : to_z w64 (of_z w64 c.read.result) ≡ c.read.result = search rules in
    let e = reading_is c.args.readings.kept c.args.readings.first.now c.args.readings.second.now ts c.args.i v c.read.ensures (ap (λ (t : Term). t.variable) c.term-term.ensures) in
    c.holds.ensures ∙ ap₂ holds c.term-term.ensures e
