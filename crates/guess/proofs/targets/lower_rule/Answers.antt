use native.Mathlib.Omega.{arith}
use Rattle.guess.proofs.targets.lower_rule.Goals as goal

pub lower_at-requires : goal.lower_at-requires
lower_at-requires c = record { some_rule = rw c.place_in.ensures (c.requires.rules_le_max_rules.1 c.args.i (omega arith)); small = c.requires.small; target_len = c.requires.target_len }
