-- Invariant: the rows of the set below `from` are closed; the next of the set is the next to close.
use Prim.Native.Nat.{◌-◌}
use mathlib.Core.Path.{refl, ◌∙◌}
use native.Mathlib.Omega.{arith}
use Rattle.format.specs.Limits.{max_variables}
use Rattle.words.specs.Bit.{has}
use Rattle.words.proofs.Nexts.{next_at_is, next_none}
use Rattle.reach.proofs.ClosingLaws.{closed_none, closed_next, closed_all}
use Rattle.reach.proofs.close_rows.Goals as goal

pub loop-x-init : goal.loop-x-init
loop-x-init c = (refl, closed_none _)

pub shape_of-sets-in_default : goal.shape_of-sets-in_default
shape_of-sets-in_default c = c.loop-x.invariant.0

pub returns-in_default : goal.returns-in_default
returns-in_default c = record { sets_len_unchanged = c.loop-x.invariant.0; closed = closed_all _ c.requires.0.few c.requires.1 (next_none _ _ max_variables c.next.ensures c.in_default.is) c.loop-x.invariant.1 }

pub close_row-requires : goal.close_row-requires
close_row-requires c = let found = next_at_is (has c.args.of.words) c.loop-x.from max_variables c.next.ensures c.in-Some.is in
    (record { few = c.requires.0.few; room = omega (arith, c.requires.0.room, c.loop-x.invariant.0) }, c.requires.1 _ found.member)

pub overflow_add-from : goal.overflow_add-from
overflow_add-from c = let found = next_at_is (has c.args.of.words) c.loop-x.from max_variables c.next.ensures c.in-Some.is in
    omega (arith, found.below)

pub loop-x-smaller : goal.loop-x-smaller
loop-x-smaller c = let found = next_at_is (has c.args.of.words) c.loop-x.from max_variables c.next.ensures c.in-Some.is in
    omega (arith, found.above, c.requires.1 _ found.member)

pub loop-x-preserved : goal.loop-x-preserved
loop-x-preserved c = let found = next_at_is (has c.args.of.words) c.loop-x.from max_variables c.next.ensures c.in-Some.is in
    (c.close_row.ensures.sets_len_unchanged ∙ c.loop-x.invariant.0, closed_next _ c.requires.0.few (c.requires.1 _ found.member) found c.loop-x.invariant.1 c.close_row.ensures.closed)
