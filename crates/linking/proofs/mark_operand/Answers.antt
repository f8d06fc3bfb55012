-- An operand of another kind draws nothing, one of the head's kind an edge.
-- the head's variable, and the operand's
use mathlib.Core.Path.{◌≡◌, ap, ◌∙◌}
use native.Mathlib.Omega.{arith}
use Rattle.program.specs.Program.{rule_of, variable_in, variables_at}
use Rattle.program.specs.Readings.{body_variable}
use Rattle.edges.proofs.PositionLaws.{draws_none, draws_one}
use Rattle.linking.proofs.OperandEdges.{other_kind, same_kind}
use Rattle.linking.proofs.mark_operand.Goals as goal

pub variable-v-requires : goal.variable-v-requires
variable-v-requires c = omega (arith, c.variable_at-x.ensures, c.requires.standing.0.declared c.args.i c.requires.i_in_bounds.0, c.requires.standing.0.inside)

pub returns-then-h-v : goal.returns-then-h-v
returns-then-h-v c = record {
  rows_len = c.requires.i_in_bounds.1;
  grown = draws_none _ _ _ _ (other_kind c.requires.standing.1 _ c.requires.i_in_bounds.0 ((let it : c.variable-h.result ≡ variable_in (variables_at c.args.records.now c.args.variables) (rule_of c.args.value.now).head = c.variable-h.ensures c.args.variables (omega (arith, c.header-rule.ensures.head_is, c.requires.standing.0.head)) ∙ ap (variable_in (variables_at c.args.records.now c.args.variables)) c.header-rule.ensures.head_is in it)) ((let it : c.variable-v.result ≡ variable_in (variables_at c.args.records.now c.args.variables) (body_variable (rule_of c.args.value.now) c.args.i) = c.variable-v.ensures c.args.variables (omega (arith, c.variable_at-x.ensures, c.requires.standing.0.declared c.args.i c.requires.i_in_bounds.0))
      ∙ ap (variable_in (variables_at c.args.records.now c.args.variables)) c.variable_at-x.ensures in it)) (λ e. c.if-h-v.true e));
}

pub returns : goal.returns
returns c = let h = c.wide-head.ensures.0 ∙ c.header-rule.ensures.head_is in
    let x = c.wide-other.ensures.0 ∙ c.variable_at-x.ensures in
    record {
      rows_len = c.mark.ensures.rows_len_2;
      grown = draws_one _ _ _ _ _ (same_kind c.requires.standing.1 _ c.requires.i_in_bounds.0 ((let it : c.variable-h.result ≡ variable_in (variables_at c.args.records.now c.args.variables) (rule_of c.args.value.now).head = c.variable-h.ensures c.args.variables (omega (arith, c.header-rule.ensures.head_is, c.requires.standing.0.head)) ∙ ap (variable_in (variables_at c.args.records.now c.args.variables)) c.header-rule.ensures.head_is in it)) ((let it : c.variable-v.result ≡ variable_in (variables_at c.args.records.now c.args.variables) (body_variable (rule_of c.args.value.now) c.args.i) = c.variable-v.ensures c.args.variables (omega (arith, c.variable_at-x.ensures, c.requires.standing.0.declared c.args.i c.requires.i_in_bounds.0))
          ∙ ap (variable_in (variables_at c.args.records.now c.args.variables)) c.variable_at-x.ensures in it)) c.if-h-v.false) h x c.mark.ensures.marked;
    }
