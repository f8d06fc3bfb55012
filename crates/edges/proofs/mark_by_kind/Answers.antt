-- One term after the other.
use native.Mathlib.Omega.{arith}
use mathlib.Core.Path.{ap, ◌∙◌}
use Rattle.program.specs.Program.{rule_of, variables_at}
use Rattle.program.specs.declared.Term.{Term}
use Rattle.parts.proofs.Bytes.{term_handed}
use Rattle.positions.proofs.KindLaws.{rule_kinds}
use Rattle.positions.proofs.Occurrences.{declared_at}
use Rattle.edges.proofs.PositionLaws.{grown_none, grown_more, draws_term, draws_done}
use Rattle.edges.proofs.mark_by_kind.Goals as goal

pub loop-i-init : goal.loop-i-init
loop-i-init c = (c.requires.form_nonzero.1, grown_none _ _)

pub term-t-requires : goal.term-t-requires
term-t-requires c = omega (arith, c.body-body.ensures.many)

pub mark_term-requires : goal.mark_term-requires
mark_term-requires c = let t = term_handed c.args.value.now c.loop-i.i c.body-body.ensures c.term-t.ensures in
    record { head_lt_max_variables = (omega (arith, c.wide-head.ensures), omega (arith, ap (λ (t : Term). t.variable) t, c.requires.standing.inside, c.requires.standing.declared c.loop-i.i (omega arith))); rows_len = c.loop-i.invariant.0 }

pub loop-i-preserved : goal.loop-i-preserved
loop-i-preserved c = let vs = variables_at c.args.file.now c.args.variables in
    let r = rule_of c.args.value.now in
    let t = term_handed c.args.value.now c.loop-i.i c.body-body.ensures c.term-t.ensures in
    let g = draws_term vs r c.loop-i.i _ (rule_kinds vs r c.requires.opened_is c.requires.form_nonzero.0 c.kinds_of-kinds.ensures) t (c.wide-head.ensures.0 ∙ c.requires.opened_is.head_is)
    (c.mark_term.ensures.by_index _ (declared_at t (c.requires.standing.declared c.loop-i.i (omega arith)))) in
    (c.mark_term.ensures.rows_len_2, grown_more _ _ c.loop-i.invariant.1 g)

pub returns : goal.returns
returns c = record { rows_len = c.loop-i.invariant.0; grown = draws_done _ _ (omega arith) c.loop-i.invariant.1 }
