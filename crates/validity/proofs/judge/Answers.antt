-- Without a mixed position in a rule that is not idle the file is valid; else the rows of the variables there are what they reach over the edges, and
-- the rows decide.
use native.Mathlib.Omega.{arith}
use mathlib.Core.Path.{sym, ◌∙◌}
use Rattle.format.specs.Limits.{max_variables}
use Rattle.words.proofs.Nexts.{next_none}
use Rattle.reach.specs.Rows.{rows_length}
use Rattle.validity.proofs.RuleLaws.{variables_few}
use Rattle.validity.proofs.ComponentLaws.{rows_none, values_none, acting_declared, outcome_is_idle, outcome_is}
use Rattle.validity.proofs.judge.Goals as goal

pub returns-in-None : goal.returns-in-None
returns-in-None c = outcome_is_idle c.requires c.acting_variables-acting.ensures
    (next_none _ 0 max_variables c.next.ensures c.in-None.is)

pub mark_edges-requires : goal.mark_edges-requires
mark_edges-requires c = record { counted = c.requires; rows_len = omega arith; values_len = (omega arith, values_none max_variables) }

pub close_for-requires : goal.close_for-requires
close_for-requires c = let f = variables_few c.requires in (
  record { few = omega (arith, f); room = omega (arith, f, c.mark_edges.ensures.rows_len_2) },
  λ v e. acting_declared c.requires v (sym (c.acting_variables-acting.ensures v) ∙ e),
)

pub first_offending-requires : goal.first_offending-requires
first_offending-requires c = let f = variables_few c.requires in
    record { counted = c.requires; lent = record { few = f; room = omega (arith, f, c.close_for.ensures.rows_len_unchanged, c.mark_edges.ensures.rows_len_2) }; values_len = c.mark_edges.ensures.values_len_2 }

pub returns : goal.returns
returns c = outcome_is c.requires (rows_none rows_length) c.mark_edges.ensures.grown
    c.acting_variables-acting.ensures c.first_offending.result c.close_for.ensures.rounds c.first_offending.ensures
