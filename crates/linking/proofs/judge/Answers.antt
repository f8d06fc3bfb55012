-- Without a mixed position in the plain part the plain file is valid; else the rows are what the edges of all its rules reach, and they decide.
use native.Mathlib.Omega.{arith}
use mathlib.Core.Path.{sym, ◌∙◌}
use borrow.Author.Tests.{not-true}
use lib.Seq.{length-take-le}
use Rattle.format.specs.Limits.{max_variables}
use Rattle.reach.specs.Rows.{rows_length}
use Rattle.validity.proofs.RuleLaws.{variables_few}
use Rattle.validity.proofs.ComponentLaws.{rows_none, values_none}
use Rattle.linking.proofs.Settling.{few}
use Rattle.linking.proofs.JudgedLaws.{outcome_none, outcome}
use Rattle.linking.proofs.judge.Goals as goal

pub slice_bounds-plain-end : goal.slice_bounds-plain-end
slice_bounds-plain-end c = sym (length-take-le _ _ c.requires.plain.inside)

pub returns-then-not-any_mixed : goal.returns-then-not-any_mixed
returns-then-not-any_mixed c = outcome_none c.requires (sym c.any_mixed.ensures ∙ not-true _ c.if-not-any_mixed.true-raw)

pub mark_edges-requires : goal.mark_edges-requires
mark_edges-requires c = record { counted = c.requires.plain.counted; rows_len = omega arith; values_len = (omega arith, values_none max_variables) }

pub close-requires : goal.close-requires
close-requires c = let f = few c.requires in
    record { few = f; room = omega (arith, f, c.mark_trees.ensures.rows_len_2) }

pub first_offending-requires : goal.first_offending-requires
first_offending-requires c = let f = variables_few c.requires.plain.counted in
    record { counted = c.requires.plain.counted; lent = record { few = f; room = omega (arith, f, c.close.ensures.sets_len_unchanged, c.mark_trees.ensures.rows_len_2) }; values_len = c.mark_trees.ensures.values_len_2 }

pub returns : goal.returns
returns c = outcome c.requires c.first_offending.result (rows_none rows_length)
    c.mark_edges.ensures.grown c.mark_trees.ensures.trees_marked c.close.ensures.rounds c.first_offending.ensures
