-- The term at the position names the variable, and its op the side.
use mathlib.Core.Path.{◌≡◌, ap, ◌∙◌}
use mathlib.Core.Bool.{cond}
use lib.Dec.{eqb}
use mir.Syntax.{w64}
use mir.Val.{to_z, of_z}
use Rattle.program.specs.declared.Term.{Term}
use Rattle.program.specs.Program.{terms_of, term_in}
use Rattle.sided.proofs.Sided.{side_by_op, sided_is}
use borrow.Author.Rules.{rules}
use Rattle.sided.proofs.read_position.Goals as goal

pub returns : goal.returns
returns c = let ts = terms_of c.args.body.now in
    let r : to_z w64 (of_z w64 c.read.result) ≡ c.read.result = search rules in
    let f = c.is_falling-falling.ensures ∙ ap (λ (t : Term). cond (eqb t.op 0) c.args.side (eqb t.op 2)) c.term-term.ensures ∙ side_by_op c.args.side (term_in ts c.args.i) in
    sided_is c.args.sides.now 0 c.args.side ts c.args.i r c.read.ensures f (ap (λ (t : Term). t.variable) c.term-term.ensures)
