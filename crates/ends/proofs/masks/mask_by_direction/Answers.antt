-- From the last position to the first, one bit a step; a position that is mixed and not single counts for the whole rule.
use mathlib.Core.Path.{refl}
use native.Mathlib.Omega.{arith}
use Rattle.program.specs.Program.{rule_of, variables_at}
use Rattle.program.specs.Readings.{valued}
use Rattle.reduct.proofs.MaskLaws.{mask_start, mask_before, mask_whole, mask_small}
use Rattle.ends.specs.Ends.{in_model, loose_at}
use Rattle.ends.proofs.MaskLaws.{some_start, some_before, some_whole, lent_mask}
use Rattle.ends.proofs.masks.mask_by_direction.Goals as goal

pub loop-i-init : goal.loop-i-init
loop-i-init c = let vs = variables_at c.args.file.now c.args.variables in
    let r = rule_of c.args.value.now in
    (omega arith, mask_start (in_model vs r) _ _ (omega arith), some_start (loose_at vs (valued c.args.lows.now) (valued c.args.highs.now) r) _ _ (omega arith))

pub way_at-way-requires : goal.way_at-way-requires
way_at-way-requires c = record { standing = c.requires.standing; opened_is = c.requires.opened_is; i_in_bounds = omega arith }

pub moved_up-bits-requires : goal.moved_up-bits-requires
moved_up-bits-requires c = mask_small c.loop-i.invariant.1 (omega arith)

pub loop-i-preserved : goal.loop-i-preserved
loop-i-preserved c = let vs = variables_at c.args.file.now c.args.variables in
    let r = rule_of c.args.value.now in (
      omega arith,
      mask_before (in_model vs r) _ _ _ (omega arith) (omega arith) c.loop-i.invariant.1 c.way_at-way.ensures.first_is c.moved_up-bits.ensures,
      some_before (loose_at vs (valued c.args.lows.now) (valued c.args.highs.now) r) _ c.loop-i.i c.loop-i.free (omega arith) c.loop-i.invariant.2 c.way_at-way.ensures.loose_is,
    )

pub returns : goal.returns
returns c = let vs = variables_at c.args.file.now c.args.variables in
    let r = rule_of c.args.value.now in
    lent_mask vs (valued c.args.lows.now) (valued c.args.highs.now) r c.requires.value_len_bound (mask_whole (in_model vs r) _ _ (omega arith) refl c.loop-i.invariant.1)
    (some_whole (loose_at vs (valued c.args.lows.now) (valued c.args.highs.now) r) _ c.loop-i.i c.loop-i.free (omega arith) c.loop-i.invariant.2) c.with_free.ensures
