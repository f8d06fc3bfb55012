use native.Mathlib.Omega.{arith}
use Rattle.guess.proofs.strides.lengthen_one.Goals as goal

pub stride_at-stride-requires : goal.stride_at-stride-requires
stride_at-stride-requires c = rw c.place_in.ensures (c.requires.rules_le_max_rules.1 c.args.i (omega arith))
