-- From the last position to the first, one bit a step.
use mathlib.Core.Path.{refl}
use native.Mathlib.Omega.{arith}
use Rattle.program.specs.Program.{rule_of, variables_at}
use Rattle.program.specs.Readings.{kept}
use Rattle.reduct.proofs.MaskLaws.{mask_start, mask_before, mask_whole, mask_small}
use Rattle.reduct.proofs.kept.kept_by_direction.Goals as goal

pub loop-i-init : goal.loop-i-init
loop-i-init c = mask_start (kept (variables_at c.args.file.now c.args.variables) (rule_of c.args.value.now)) _ _ (omega arith)

pub position_at-p-requires : goal.position_at-p-requires
position_at-p-requires c = record { standing = c.requires.standing; opened_is = c.requires.opened_is; i_in_bounds = omega arith }

pub moved_up-bits-requires : goal.moved_up-bits-requires
moved_up-bits-requires c = mask_small c.loop-i.invariant (omega arith)

pub loop-i-preserved : goal.loop-i-preserved
loop-i-preserved c = let k = kept (variables_at c.args.file.now c.args.variables) (rule_of c.args.value.now) in
    mask_before k _ _ _ (omega arith) (omega arith) c.loop-i.invariant c.position_at-p.ensures.kept_is c.moved_up-bits.ensures

pub returns : goal.returns
returns c = mask_whole (kept (variables_at c.args.file.now c.args.variables) (rule_of c.args.value.now)) _ _ (omega arith) refl c.loop-i.invariant
