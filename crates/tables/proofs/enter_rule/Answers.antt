-- One position after the other.
use mathlib.Core.Path.{refl, ◌∙◌}
use native.Mathlib.Omega.{arith}
use Rattle.tables.proofs.EntryLaws.{entered_start, entered_more, entered_rule}
use Rattle.tables.proofs.enter_rule.Goals as goal

pub loop-j-init : goal.loop-j-init
loop-j-init c = (refl, entered_start _ _ _)

pub enter_position-requires : goal.enter_position-requires
enter_position-requires c = let d = c.requires.rows_in c.loop-j.j (omega arith) in
    record { k_lt_max_rules = (omega arith, c.requires.k_lt_max_rules.1, omega arith, omega arith); row_in = rw (← c.loop-j.invariant.0) at d }

pub loop-j-preserved : goal.loop-j-preserved
loop-j-preserved c = (c.enter_position.ensures.readers_len_unchanged ∙ c.loop-j.invariant.0, entered_more _ _ _ _ _ _ c.loop-j.invariant.1 c.enter_position.ensures.entered)

pub returns : goal.returns
returns c = record { readers_len_unchanged = c.loop-j.invariant.0; entered = entered_rule _ _ _ _ _ _ (omega arith) c.loop-j.invariant.1 }
