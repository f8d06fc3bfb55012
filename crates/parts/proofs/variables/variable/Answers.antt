-- The 5 bytes are those of variable x.
use mathlib.Core.Path.{◌∙◌}
use Prim.Native.Nat.{◌+◌, ◌*◌}
use native.Mathlib.Omega.{arith}
use Rattle.parts.proofs.Bytes.{variable_part}
use Rattle.parts.proofs.variables.variable.Goals as goal

pub returns : goal.returns
returns c = let f = c.wide-field.result * 8 in
    λ n h. c.variable_of.ensures ∙ variable_part c.args.file.now c.args.x n (f + 3) (f + 8) (omega arith) (omega arith) h
