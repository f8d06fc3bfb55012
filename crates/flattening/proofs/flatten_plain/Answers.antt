-- The trees are surveyed: their first refusal is the answer, else the plain file is judged and written.
use Rattle.std.proofs.lemmas.Result.{err_from_is_err_and}
use native.Mathlib.Omega.{arith}
use Rattle.format.specs.Limits.{max_variables}
use Rattle.validity.proofs.ComponentLaws.{values_none}
use Rattle.flattening.proofs.Calls.{call_refused, surveyed_sized}
use Rattle.flattening.proofs.flatten_plain.Goals as goal

pub survey-requires : goal.survey-requires
survey-requires c = record { plain_counted = c.requires; tables = (record { lows_many = omega arith; highs_many = omega arith; lows_small = values_none max_variables; highs_small = values_none max_variables }, omega arith) }

pub flatten_surveyed-requires : goal.flatten_surveyed-requires
flatten_surveyed-requires c = surveyed_sized c.survey.ensures c.in_ok-totals.was c.requires

pub returns-in_err-totals : goal.returns-in_err-totals
returns-in_err-totals c = let p = err_from_is_err_and c.from_residual.result c.from_residual.ensures.1 in rw (p.1, p.2) (call_refused c.survey.ensures c.in_err-totals.was)
