-- Where the sets have no room they stay; else the rows with the edges are copied to them.
use native.Mathlib.Omega.{arith}
use Rattle.format.specs.Limits.{max_variables}
use Rattle.reach.specs.Rows.{rows_length}
use Rattle.validity.proofs.RuleLaws.{variables_few}
use Rattle.validity.proofs.ComponentLaws.{rows_none, values_none}
use Rattle.search.proofs.BeginLaws.{drawn, no_room}
use Rattle.search.proofs.draw.Goals as goal

pub overflow_mul-n : goal.overflow_mul-n
overflow_mul-n c = omega (arith, variables_few c.requires)

pub returns-then-sets-n : goal.returns-then-sets-n
returns-then-sets-n c = no_room c.requires (omega arith)

pub mark_edges-requires : goal.mark_edges-requires
mark_edges-requires c = record { counted = c.requires; rows_len = omega arith; values_len = (omega arith, values_none max_variables) }

pub copy-requires : goal.copy-requires
copy-requires c = omega (arith, c.mark_edges.ensures.rows_len_2, variables_few c.requires)

pub returns : goal.returns
returns c = drawn c.requires (rows_none rows_length) c.mark_edges.ensures.grown (omega arith) c.copy.ensures
