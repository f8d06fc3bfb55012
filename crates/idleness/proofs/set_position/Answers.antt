-- The term names the variable, whose field gives the ends, and its direction chooses.
use Prim.Native.Nat.{ℕ}
use mathlib.Core.Path.{◌≡◌, sym, ap, ap₂, ◌∙◌}
use native.Mathlib.Omega.{arith}
use mir.Syntax.{w64}
use mir.Val.{to_z, of_z}
use borrow.Author.Rules.{rules}
use lib.ListN.{set}
use Rattle.program.specs.Program.{rule_of, term_form, variable_in, variables_at}
use Rattle.program.specs.Directions.{term_direction}
use Rattle.program.specs.declared.Term.{Term}
use Rattle.program.proofs.Pushes.{direction_is}
use Rattle.parts.proofs.Bytes.{term_handed}
use Rattle.idleness.proofs.MostLaws.{most_read, field_inside, position_low, position_high}
use Rattle.idleness.proofs.set_position.Goals as goal

pub term-t-requires : goal.term-t-requires
term-t-requires c = omega (arith, c.body.ensures.many, c.requires.i_in_bounds.0)

pub variable-x-requires : goal.variable-x-requires
variable-x-requires c =
    let t = term_handed c.args.value.now c.args.i c.body.ensures c.term-t.ensures in
    field_inside c.requires.ready _ c.requires.i_in_bounds.0 (ap (λ (t : Term). t.variable) t)

pub demanding-most-requires : goal.demanding-most-requires
demanding-most-requires c =
    let t = ap (λ (t : Term). t.variable) (term_handed c.args.value.now c.args.i c.body.ensures c.term-t.ensures) in
    let v = c.variable-x.ensures c.args.variables (omega (arith, t, c.requires.ready.standing.declared c.args.i c.requires.i_in_bounds.0))
    ∙ ap (variable_in (variables_at c.args.file.now c.args.variables)) t in
    let low = position_low c.requires.ready _ c.requires.i_in_bounds.0 v in
    let high = position_high c.requires.ready _ c.requires.i_in_bounds.0 v in
    let a : to_z w64 (of_z w64 c.variable-x.result.low) ≡ c.variable-x.result.low = search rules in
    let b : to_z w64 (of_z w64 c.variable-x.result.high) ≡ c.variable-x.result.high = search rules in
    rw (a, b) (omega (arith, low, high), omega (arith, low, high))

pub returns : goal.returns
returns c =
    let vs = variables_at c.args.file.now c.args.variables in
    let r = rule_of c.args.value.now in
    let same = term_handed c.args.value.now c.args.i c.body.ensures c.term-t.ensures in
    let t = ap (λ (t : Term). t.variable) same in
    let v = c.variable-x.ensures c.args.variables (omega (arith, t, c.requires.ready.standing.declared c.args.i c.requires.i_in_bounds.0)) ∙ ap (variable_in vs) t in
    let a : to_z w64 (of_z w64 c.variable-x.result.low) ≡ c.variable-x.result.low = search rules in
    let b : to_z w64 (of_z w64 c.variable-x.result.high) ≡ c.variable-x.result.high = search rules in
    let z : to_z w64 (of_z w64 c.demanding-most.result) ≡ c.demanding-most.result = search rules in
    let d = c.of_term-d.ensures
    ∙ ap (λ (f : ℕ). term_direction c.args.rule.variable (term_form f) c.variable-x.result c.term-t.result) c.requires.opened_is.form_is
    ∙ direction_is vs r c.args.i c.requires.opened_is.variable_is same (v ∙ ap (λ (u : Term). variable_in vs u.variable) (sym same)) in
    ap₂ (set c.args.values.now) (c.wide-v.ensures.0 ∙ t) (z ∙ most_read vs r c.args.i c.requires.opened_is.variable_is d v (simp (a, b) at c.demanding-most.ensures))
