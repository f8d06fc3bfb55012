-- The term at the position names the variable that is read.
use mathlib.Core.Path.{◌≡◌, ap}
use mir.Syntax.{w64}
use mir.Val.{to_z, of_z}
use Rattle.program.specs.declared.Term.{Term}
use Rattle.program.specs.Program.{terms_of, term_in}
use Rattle.sided.proofs.Sided.{side_plain, sided_is}
use borrow.Author.Rules.{rules}
use Rattle.sided.proofs.read_plain.Goals as goal

pub returns : goal.returns
returns c = let ts = terms_of c.args.body.now in
    let r : to_z w64 (of_z w64 c.read.result) ≡ c.read.result = search rules in
    sided_is c.args.sides.now 0 c.args.side ts c.args.i r c.read.ensures (side_plain c.args.side (term_in ts c.args.i) c.requires.i_value)
    (ap (λ (t : Term). t.variable) c.term-term.ensures)
