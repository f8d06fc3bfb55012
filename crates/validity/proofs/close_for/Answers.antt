-- Either way the rows of the set are closed.
use mathlib.Core.Logic.{inl, inr}
use Rattle.validity.proofs.close_for.Goals as goal

pub returns-then-variables-many : goal.returns-then-variables-many
returns-then-variables-many c = record { rows_len_unchanged = c.close.ensures.sets_len_unchanged; rounds = inl c.close.ensures.rounds }

pub returns : goal.returns
returns c = record { rows_len_unchanged = c.close_rows.ensures.sets_len_unchanged; rounds = inr c.close_rows.ensures.closed }
