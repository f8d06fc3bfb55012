use native.Mathlib.Omega.{arith}
use Rattle.guess.proofs.levels.level_of.Goals as goal

pub level_at-requires : goal.level_at-requires
level_at-requires c = record { some_rule = rw c.place_in.ensures (c.requires.rules_le_max_rules.1 c.args.i (omega arith)); small = c.requires.small }
