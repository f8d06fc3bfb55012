-- One rule more has had its turn, for every program that the file means; there is one, since it is accepted.
use native.Mathlib.Omega.{arith}
use Rattle.reader.proofs.Published.{limited}
use Rattle.ascent.proofs.ClimbLaws.{rule_stands, some_stands, place_inside, place_next}
use Rattle.ends.proofs.FreeLaws.{place_first, freed_whole}
use Rattle.ends.proofs.free.free_heads.Goals as goal

pub overflow_mul-at : goal.overflow_mul-at
overflow_mul-at c = let v = limited c.requires.accepted_as in omega arith

pub loop-init : goal.loop-init
loop-init c = (omega arith, c.requires.sides_len, place_first c.requires.accepted_as, λ P x f. f)

pub free_rule-requires : goal.free_rule-requires
free_rule-requires c = record { some_rule = some_stands c.requires.accepted_as c.loop-test.true c.loop.invariant.2; sides_len = c.loop.invariant.1 }

pub next_at-at-requires : goal.next_at-at-requires
next_at-at-requires c = place_inside c.requires.accepted_as c.loop-test.true c.loop.invariant.2

pub loop-preserved : goal.loop-preserved
loop-preserved c = (
  omega arith,
  c.free_rule.ensures.sides_len_2,
  place_next c.requires.accepted_as c.loop-test.true c.loop.invariant.2 c.next_at-at.ensures,
  λ P x f. c.free_rule.ensures.freed P _ (rule_stands c.requires.accepted_as c.loop-test.true c.loop.invariant.2 x) c.requires.fits_ranges c.requires.at_stops (c.loop.invariant.3 P x f),
)

pub returns : goal.returns
returns c = record { sides_len_2 = c.loop.invariant.1; freed = λ P x f. freed_whole c.requires.accepted_as (omega (arith, c.loop-test.false, c.loop.invariant.0)) x (c.loop.invariant.3 P x f) }
