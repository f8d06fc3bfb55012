-- One edge, where the test of the term says so.
use mathlib.Core.Path.{ap, ◌∙◌}
use Rattle.program.specs.declared.Variable.{Variable}
use Rattle.edges.specs.Edges.{draws_by}
use Rattle.edges.proofs.PositionLaws.{marked_as}
use Rattle.edges.proofs.mark_term.Goals as goal

pub returns : goal.returns
returns c = record {
  rows_len_2 = c.mark_where.ensures.rows_len_2;
  by_index = λ n l. marked_as (c.draws_by-draws.ensures ∙ ap (λ (x : Variable). draws_by c.args.kinds.up c.args.kinds.down x c.args.t) (c.variable-x.ensures n l))
      c.wide-v.ensures.0 c.mark_where.ensures.marked_where;
}
