-- From the last position to the first, one bit a step.
use Prim.Native.Nat.{◌-◌}
use lib.ListN.{length}
use Rattle.program.specs.Program.{rule_of, variables_at}
use Rattle.program.specs.Readings.{kept}
use Rattle.reduct.specs.Masks.{Mask}
use Rattle.reduct.proofs.MaskLaws.{from}
use Rattle.reduct.proofs.kept.kept_by_direction.Given as goal

abbrev pub invariant-loop-i : goal.invariant-loop-i
invariant-loop-i l = Mask (from (kept (variables_at l.file l.variables) (rule_of l.value)) l.i) (length (rule_of l.value).terms - l.i) l.bits
