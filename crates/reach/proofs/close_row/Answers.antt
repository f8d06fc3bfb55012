-- Invariant: the row has taken in the rows of the variables that are not left, and has nothing but what is reached; one more leaves at each turn.
use mathlib.Core.Path.{refl, sym, ◌∙◌}
use native.Mathlib.Omega.{arith}
use Rattle.format.specs.Limits.{max_variables}
use Rattle.words.specs.Bit.{has}
use Rattle.words.proofs.Nexts.{next_at_is, next_none}
use Rattle.sets.proofs.Counts.{count_drop}
use Rattle.reach.specs.Rows.{row_has}
use Rattle.reach.proofs.ClosingLaws.{both, all_in, taking_none, taking_more, taking_all}
use Rattle.reach.proofs.close_row.Goals as goal

pub loop-m-init : goal.loop-m-init
loop-m-init c = (refl, refl, taking_none _ _ _ _ c.requires.1 c.requires.0.few all_in)

pub row_left-requires : goal.row_left-requires
row_left-requires c = record { x_lt_max_variables = (omega (arith, c.requires.0.few, c.requires.1), c.loop-m.invariant.1); x_in_bounds = omega (arith, c.requires.0.room, c.requires.1, c.loop-m.invariant.0) }

pub shape_of-sets-in_default : goal.shape_of-sets-in_default
shape_of-sets-in_default c = c.loop-m.invariant.0

pub returns-in_default : goal.returns-in_default
returns-in_default c = let none = next_none (has c.row_left.result.words) _ max_variables c.next.ensures c.in_default.is in
    record { sets_len_unchanged = c.loop-m.invariant.0; closed = taking_all c.requires.0.few c.requires.1 c.loop-m.invariant.2 (λ j h. sym (c.row_left.ensures j) ∙ none j (omega arith) (omega (arith, c.requires.0.few))) }

pub shape_of-sets-then-variables-m : goal.shape_of-sets-then-variables-m
shape_of-sets-then-variables-m c = c.loop-m.invariant.0

pub returns-then-variables-m : goal.returns-then-variables-m
returns-then-variables-m c = let found = next_at_is (has c.row_left.result.words) _ max_variables c.next.ensures c.in-Some.is in
    record { sets_len_unchanged = c.loop-m.invariant.0; closed = taking_all c.requires.0.few c.requires.1 c.loop-m.invariant.2 (λ j h. sym (c.row_left.ensures j) ∙ found.first j (omega arith) (omega arith)) }

pub drop_bit-requires : goal.drop_bit-requires
drop_bit-requires c = omega (arith, c.requires.0.few, c.loop-m.invariant.1)

pub join-requires : goal.join-requires
join-requires c = omega (arith, c.requires.0.few, c.requires.0.room, c.requires.1, c.loop-m.invariant.0)

pub loop-m-smaller : goal.loop-m-smaller
loop-m-smaller c = let found = next_at_is (has c.row_left.result.words) _ max_variables c.next.ensures c.in-Some.is in
    count_drop _ _ _ max_variables found.below (both (row_has c.loop-m.sets c.args.x c.in-Some.m) _ (sym (c.row_left.ensures _) ∙ found.member)).1 c.drop_bit.ensures.by_index

pub loop-m-preserved : goal.loop-m-preserved
loop-m-preserved c = let found = next_at_is (has c.row_left.result.words) _ max_variables c.next.ensures c.in-Some.is in (
  c.join.ensures.rows_len_unchanged ∙ c.loop-m.invariant.0,
  c.drop_bit.ensures.words_len_unchanged ∙ c.loop-m.invariant.1,
  taking_more c.requires.0.few c.requires.1 c.loop-m.invariant.2 _ (omega arith) (both _ _ (sym (c.row_left.ensures _) ∙ found.member)).0 c.join.ensures.joined c.drop_bit.ensures.by_index,
)
