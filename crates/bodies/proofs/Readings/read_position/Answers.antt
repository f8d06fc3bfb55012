-- The term at the position names the variable that is read.
use mathlib.Core.Path.{◌≡◌, ap}
use mir.Syntax.{w64}
use mir.Val.{to_z, of_z}
use Rattle.program.specs.declared.Term.{Term}
use Rattle.program.specs.Program.{terms_of}
use Rattle.bodies.proofs.Loops.{reading_is}
use borrow.Author.Rules.{rules}
use Rattle.bodies.proofs.Readings.read_position.Goals as goal

pub returns : goal.returns
returns c = let r : to_z w64 (of_z w64 c.read.result) ≡ c.read.result = search rules in
    reading_is c.args.self.kept c.args.self.first.now c.args.self.second.now (terms_of c.args.body.now) c.args.i r c.read.ensures (ap (λ (t : Term). t.variable) c.term-term.ensures)
