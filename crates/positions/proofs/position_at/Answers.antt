-- Term, variable and direction are those of the rule, by the contracts of their readers.
use mathlib.Core.Path.{ap, ◌∙◌}
use Prim.Native.Nat.{ℕ}
use native.Mathlib.Omega.{arith}
use Rattle.program.specs.declared.Term.{Term}
use Rattle.program.specs.Program.{rule_of, term_form, variables_at}
use Rattle.program.specs.Directions.{term_direction}
use Rattle.parts.proofs.Bytes.{term_handed}
use Rattle.positions.proofs.Occurrences.{declared_at, position_read}
use Rattle.positions.proofs.position_at.Goals as goal

pub term-t-requires : goal.term-t-requires
term-t-requires c = omega (arith, c.body.ensures.many)

pub variable-x-requires : goal.variable-x-requires
variable-x-requires c = let t = term_handed c.args.value.now c.args.i c.body.ensures c.term-t.ensures in
    omega (arith, ap (λ (t : Term). t.variable) t, c.requires.standing.declared c.args.i c.requires.i_in_bounds)

pub returns : goal.returns
returns c = let t = term_handed c.args.value.now c.args.i c.body.ensures c.term-t.ensures in
    position_read (variables_at c.args.file.now c.args.variables) (rule_of c.args.value.now) c.args.i c.requires.opened_is.variable_is t
    (c.variable-x.ensures _ (declared_at t (c.requires.standing.declared c.args.i c.requires.i_in_bounds)))
    (c.of_term-direction.ensures ∙ ap (λ (f : ℕ). term_direction c.args.rule.variable (term_form f) c.variable-x.result c.term-t.result) c.requires.opened_is.form_is)
    c.is_kept.ensures
