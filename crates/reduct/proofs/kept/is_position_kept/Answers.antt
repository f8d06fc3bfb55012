-- Term and variable are those of the rule, by the contracts of their readers.
use mathlib.Core.Path.{ap}
use native.Mathlib.Omega.{arith}
use Rattle.program.specs.declared.Term.{Term}
use Rattle.program.specs.Program.{rule_of, variables_at}
use Rattle.parts.proofs.Bytes.{term_handed}
use Rattle.positions.proofs.Occurrences.{declared_at}
use Rattle.positions.proofs.KindLaws.{position_kept}
use Rattle.reduct.proofs.kept.is_position_kept.Goals as goal

pub variable-x-requires : goal.variable-x-requires
variable-x-requires c = let t = term_handed c.args.value.now c.args.i c.body.ensures c.term-t.ensures in
    omega (arith, ap (λ (t : Term). t.variable) t, c.requires.standing.declared c.args.i c.requires.i_in_bounds)

pub returns : goal.returns
returns c = let t = term_handed c.args.value.now c.args.i c.body.ensures c.term-t.ensures in
    position_kept (variables_at c.args.file.now c.args.variables) (rule_of c.args.value.now) c.args.i c.requires.kinds_of t
    (c.variable-x.ensures _ (declared_at t (c.requires.standing.declared c.args.i c.requires.i_in_bounds))) c.is_kept.ensures
