-- The rule's field is put into a local array, and its value is marked as that of a plain rule: an idle one draws nothing.
use mathlib.Core.Path.{ap, ◌∙◌}
use native.Mathlib.Omega.{arith}
use lib.ListN.{drop}
use Rattle.program.specs.Program.{rule_of}
use Rattle.edges.proofs.PositionLaws.{grown_as}
use Rattle.validity.specs.Marks.{draws_by}
use Rattle.validity.proofs.RuleLaws.{idle_draws, acting_draws}
use Rattle.noderules.specs.NodeRules.{rule_at}
use Rattle.noderules.proofs.Putting.{puts_length}
use Rattle.noderules.proofs.Rules.{node_size}
use Rattle.linking.proofs.Drawn.{drawn_one}
use Rattle.linking.proofs.NodeMarks.{value_put, value_means, ready}
use Rattle.flat.specs.Flat.{operands_in}
use Rattle.linking.proofs.OperandEdges.{node_value_lem}
use Rattle.linking.proofs.mark_node.Goals as goal

pub slice_bounds-value-end : goal.slice_bounds-value-end
slice_bounds-value-end c = let l = node_size c.args.s.now c.args.node in
    omega (arith, c.put_node-end.ensures.ends, c.requires.writable.0.few, puts_length c.put_node-end.ensures (omega (arith, c.requires.writable.0.few)))

pub is_idle-requires : goal.is_idle-requires
is_idle-requires c = let r = rule_at c.args.s.now c.args.node in
    record { ready = ready c.requires.recorded r c.requires.writable.1 (value_put r c.put_node-end.ensures); values_len = c.requires.values_len }

pub returns-then-is_idle : goal.returns-then-is_idle
returns-then-is_idle c = let r = rule_at c.args.s.now c.args.node in
    let e = ap rule_of (value_put r c.put_node-end.ensures) ∙ value_means c.requires.recorded r c.requires.writable.1 in
    record { rows_len_2 = c.requires.rows_len; values_len_2 = c.is_idle.ensures.values_len_2; grown_by = drawn_one _ r (grown_as (ap (draws_by _) e) (idle_draws _ _ _ c.is_idle.ensures.value c.if-is_idle.true)) }

pub mark_operands-requires : goal.mark_operands-requires
mark_operands-requires c = let r = rule_at c.args.s.now c.args.node in
    let v = value_put r c.put_node-end.ensures in record {
      standing = (
        (ready c.requires.recorded r c.requires.writable.1 v).standing,
        node_value_lem _ _ (operands_in c.args.node.next c.args.node.n (drop c.args.node.at c.args.s.now)) c.requires.writable.1
            (ap rule_of v ∙ value_means c.requires.recorded r c.requires.writable.1),
      );
      rows_len = c.requires.rows_len;
    }

pub returns : goal.returns
returns c = let r = rule_at c.args.s.now c.args.node in
    let e = ap rule_of (value_put r c.put_node-end.ensures) ∙ value_means c.requires.recorded r c.requires.writable.1 in
    record { rows_len_2 = c.mark_operands.ensures.rows_len_2; values_len_2 = c.is_idle.ensures.values_len_2; grown_by = drawn_one _ r (grown_as (ap (draws_by _) e) (acting_draws _ _ c.is_idle.ensures.value c.if-is_idle.false c.mark_operands.ensures.grown)) }
