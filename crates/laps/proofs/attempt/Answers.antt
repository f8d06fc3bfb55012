-- The rule leaves the set; it is met, or its head is raised, or asks for more than its head's range has.
use mathlib.Core.Path.{◌≡◌, sym, ◌∙◌}
use native.Mathlib.Omega.{arith}
use mir.Syntax.{w64}
use mir.Val.{to_z, of_z}
use borrow.Author.Rules.{rules}
use Rattle.run.proofs.StepLaws.{dropped_inside}
use Rattle.run.proofs.SolveLaws.{run_small, run_field, no_lift, lift_on, lift_nearer}
use Rattle.laps.proofs.LapLaws.{try_some, try_met, try_more, not_moved}
use Rattle.laps.proofs.attempt.Goals as goal

pub returns-then-not-has_bit : goal.returns-then-not-has_bit
returns-then-not-has_bit c = record { model_len = (c.requires.i_lt_max_rules.1, c.requires.i_lt_max_rules.2); model_bound = omega arith; after_try = λ P R θ k. k }

pub look-found-requires : goal.look-found-requires
look-found-requires c = record { some_rule = try_some c.requires.some_run.run _ c.requires.i_lt_max_rules.0 (sym c.has_bit.ensures ∙ c.if-not-has_bit.false); small = run_small c.requires.some_run.run }

pub returns-in_default : goal.returns-in_default
returns-in_default c = record { model_len = (c.requires.i_lt_max_rules.1, c.drop_bit.ensures.words_len_unchanged ∙ c.requires.i_lt_max_rules.2); model_bound = omega arith; after_try = λ P R θ k. try_met k _ c.requires.i_lt_max_rules.0 (sym c.has_bit.ensures ∙ c.if-not-has_bit.false) _ (record { is = c.drop_bit.ensures.by_index }) c.look-found.ensures c.in_default.is }

pub head_of-head-requires : goal.head_of-head-requires
head_of-head-requires c = try_some c.requires.some_run.run _ c.requires.i_lt_max_rules.0 (sym c.has_bit.ensures ∙ c.if-not-has_bit.false)

pub variable-x-requires : goal.variable-x-requires
variable-x-requires c = run_field c.requires.some_run.run _ (try_more c.requires.some_run.run _ c.requires.i_lt_max_rules.0 (sym c.has_bit.ensures ∙ c.if-not-has_bit.false) _ (record { is = c.drop_bit.ensures.by_index })
    c.look-found.ensures c.in-Some.is) c.head_of-head.ensures

pub raise-requires : goal.raise-requires
raise-requires c = record { model_len = c.requires.i_lt_max_rules.1; waiting_len = c.drop_bit.ensures.words_len_unchanged ∙ c.requires.i_lt_max_rules.2 }

pub returns-then-not-raise : goal.returns-then-not-raise
returns-then-not-raise c = let z : to_z w64 (of_z w64 c.in-Some.a) ≡ c.in-Some.a = search rules in
    let waits = sym c.has_bit.ensures ∙ c.if-not-has_bit.false in
    record {
      model_len = (c.raise.ensures.model_len_2, c.raise.ensures.waiting_len_2);
      model_bound = not_moved c.requires.some_run.run _ c.head_of-head.ensures c.variable-x.ensures z c.raise.new.model c.raise.new.waiting c.raise.result c.raise.ensures.lifted c.if-not-raise.true;
      after_try = λ P R θ k. no_lift k _ (try_more k _ c.requires.i_lt_max_rules.0 waits _ (record { is = c.drop_bit.ensures.by_index }) c.look-found.ensures c.in-Some.is) c.head_of-head.ensures c.variable-x.ensures z c.raise.new.model c.raise.new.waiting c.raise.result c.raise.ensures.lifted
          c.if-not-raise.true;
    }

pub returns : goal.returns
returns c = let z : to_z w64 (of_z w64 c.in-Some.a) ≡ c.in-Some.a = search rules in
    let waits = sym c.has_bit.ensures ∙ c.if-not-has_bit.false in
    record {
      model_len = (c.raise.ensures.model_len_2, c.raise.ensures.waiting_len_2);
      model_bound = omega (
        arith,
        lift_nearer c.requires.some_run.run _ (try_more c.requires.some_run.run _ c.requires.i_lt_max_rules.0 waits _ (record { is = c.drop_bit.ensures.by_index }) c.look-found.ensures c.in-Some.is) c.head_of-head.ensures c.variable-x.ensures z c.raise.new.model c.raise.new.waiting c.raise.result c.raise.ensures.lifted
            c.if-not-raise.false (dropped_inside (record { is = c.drop_bit.ensures.by_index })) c.requires.i_lt_max_rules.1,
      );
      after_try = λ P R θ k. lift_on k _ (try_more k _ c.requires.i_lt_max_rules.0 waits _ (record { is = c.drop_bit.ensures.by_index }) c.look-found.ensures c.in-Some.is) c.head_of-head.ensures c.variable-x.ensures z c.raise.new.model c.raise.new.waiting c.raise.result c.raise.ensures.lifted
          c.if-not-raise.false (dropped_inside (record { is = c.drop_bit.ensures.by_index })) c.requires.i_lt_max_rules.1;
    }
