-- A position that is neither kept nor mixed draws nothing, another one edge.
use mathlib.Core.Path.{refl, ◌∙◌}
use Rattle.edges.proofs.PositionLaws.{draws_as, draws_where}
use Rattle.edges.proofs.mark_position.Goals as goal

pub returns : goal.returns
returns c = let h = c.wide-head.ensures.0 ∙ c.requires.opened_is.head_is in
    let x = c.wide-x.ensures.0 ∙ c.position_at-p.ensures.variable_is in
    record { rows_len = c.mark_where.ensures.rows_len_2; grown = draws_where _ _ _ _ _ _ (draws_as _ _ _ c.position_at-p.ensures c.is_mixed-mixed.ensures refl) h x c.mark_where.ensures.marked_where }
