-- One term after the other: no later one names the variable of an earlier one.
use mathlib.Core.Path.{ap, ◌∙◌}
use native.Mathlib.Omega.{arith}
use Rattle.program.specs.Program.{rule_of, variable_in, variables_at}
use Rattle.program.specs.declared.Term.{Term}
use Rattle.parts.proofs.Bytes.{term_handed}
use Rattle.positions.proofs.KindLaws.{rule_kinds}
use Rattle.positions.proofs.Occurrences.{declared_at}
use Rattle.idleness.proofs.MostLaws.{most_by_kind, field_inside, position_low, position_high, taken_none, taken_more, taken_all}
use Rattle.idleness.proofs.set_by_kind.Goals as goal

pub loop-i-init : goal.loop-i-init
loop-i-init c = taken_none _ _ _ c.requires.form_nonzero.1 c.requires.form_nonzero.2

pub term-t-requires : goal.term-t-requires
term-t-requires c = omega (arith, c.body-body.ensures.many)

pub variable-x-requires : goal.variable-x-requires
variable-x-requires c = let t = term_handed c.args.value.now c.loop-i.i c.body-body.ensures c.term-t.ensures in
    field_inside c.requires.ready c.loop-i.i (omega arith) (ap (λ (t : Term). t.variable) t)

pub set_term-requires : goal.set_term-requires
set_term-requires c = let t = term_handed c.args.value.now c.loop-i.i c.body-body.ensures c.term-t.ensures in
    let q = c.variable-x.ensures _ (declared_at t (c.requires.ready.standing.declared c.loop-i.i (omega arith)))
    ∙ ap (λ (t : Term). variable_in (variables_at c.args.file.now c.args.variables) t.variable) t in
    (position_low c.requires.ready c.loop-i.i (omega arith) q, position_high c.requires.ready c.loop-i.i (omega arith) q, c.loop-i.invariant.long)

pub loop-i-preserved : goal.loop-i-preserved
loop-i-preserved c = let vs = variables_at c.args.file.now c.args.variables in
    let r = rule_of c.args.value.now in
    let t = term_handed c.args.value.now c.loop-i.i c.body-body.ensures c.term-t.ensures in
    let q = c.variable-x.ensures c.args.variables (declared_at t (c.requires.ready.standing.declared c.loop-i.i (omega arith))) in
    let e = most_by_kind vs r c.loop-i.i c.requires.opened_is.variable_is (rule_kinds vs r c.requires.opened_is c.requires.form_nonzero.0 c.kinds_of-kinds.ensures) t q c.loop-i.values in
    taken_more _ _ _ c.requires.ready (omega arith) c.loop-i.invariant (c.set_term.ensures ∙ e)

pub returns : goal.returns
returns c = record { values_len = (c.loop-i.invariant.long, c.loop-i.invariant.small); by_index = taken_all _ _ _ (omega arith) c.loop-i.invariant }
