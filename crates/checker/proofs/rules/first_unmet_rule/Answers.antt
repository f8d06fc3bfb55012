-- Every position is read in the assignment, which stands on both sides.
use native.Mathlib.Omega.{arith}
use Rattle.program.specs.Readings.{valued}
use Rattle.program.proofs.Promises.{accepts_promises}
use Rattle.reader.proofs.Published.{reads_accepts, counts_of_is, limited, first_rule}
use Rattle.meaning.specs.Reduct.{reduct}
use Rattle.meaning.proofs.InRanges.{value_small}
use Rattle.ascent.proofs.ClimbLaws.{next_first, next_none}
use Rattle.ascent.proofs.LevelLaws.{past_level, level_sided, level_risen, level_small}
use Rattle.ascent.proofs.ReductLaws.{reduct_read}
use Rattle.checker.proofs.MetLaws.{first_unmet_is, none_unmet}
use Rattle.checker.proofs.rules.first_unmet_rule.Goals as goal

pub level_sides-requires : goal.level_sides-requires
level_sides-requires c = let f = limited c.requires.accepted_as in record { n_le_max_variables = f.few_variables; sides_len = c.requires.level_past.1 }

pub overflow_mul-n : goal.overflow_mul-n
overflow_mul-n c = let v = limited c.requires.accepted_as in omega arith

pub next_more-next-requires : goal.next_more-next-requires
next_more-next-requires c = let θ = valued c.args.assigned.now in
    let x = reads_accepts c.requires.accepted_as in record { accepted_as = c.requires.accepted_as; at_value = λ P a. omega (arith, first_rule a, (counts_of_is c.requires.accepted_as a).variables_are); i_le_rules = (omega arith, level_small c.level_sides.ensures.level_sides c.requires.level_past.0 (value_small (accepts_promises x.accepts) (c.requires.within x.meant x.accepts))) }

pub returns-in-More : goal.returns-in-More
returns-in-More c = let θ = valued c.args.assigned.now in
    record { level_past_2 = (past_level c.level_sides.ensures.level_sides c.requires.level_past.0, c.level_sides.ensures.sides_len_2); rules_are = λ P a. first_unmet_is (level_risen c.level_sides.ensures.level_sides c.requires.level_past.0 P.variables) (next_first _ P (reduct P) θ _ 0 (c.next_more-next.ensures P (reduct P) θ a (reduct_read a (level_sided c.level_sides.ensures.level_sides c.requires.level_past.0 P.variables) _)) c.in-More.is) }

pub returns-in-Nothing : goal.returns-in-Nothing
returns-in-Nothing c = let θ = valued c.args.assigned.now in
    record { level_past_2 = (past_level c.level_sides.ensures.level_sides c.requires.level_past.0, c.level_sides.ensures.sides_len_2); rules_are = λ P a. none_unmet (level_risen c.level_sides.ensures.level_sides c.requires.level_past.0 P.variables) (next_none _ P (reduct P) θ _ 0 (c.next_more-next.ensures P (reduct P) θ a (reduct_read a (level_sided c.level_sides.ensures.level_sides c.requires.level_past.0 P.variables) _)) c.in-Nothing.is) }
