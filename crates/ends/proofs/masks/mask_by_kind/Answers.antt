-- From the last term to the first, one bit a step; a term that is mixed and not single counts for the whole rule.
use mathlib.Core.Path.{refl, ap}
use Prim.Native.Nat.{◌-◌}
use native.Mathlib.Omega.{arith}
use Rattle.program.specs.Program.{rule_of, variables_at}
use Rattle.program.specs.Readings.{valued}
use Rattle.program.specs.declared.Term.{Term}
use Rattle.parts.proofs.Bytes.{term_handed}
use Rattle.positions.proofs.KindLaws.{rule_kinds}
use Rattle.positions.proofs.Occurrences.{declared_at}
use Rattle.reduct.proofs.MaskLaws.{mask_start, mask_before, mask_whole, mask_small}
use Rattle.ends.specs.Ends.{in_model, loose_at}
use Rattle.ends.proofs.MaskLaws.{term_read, some_start, some_before, some_whole, lent_mask}
use Rattle.ends.proofs.masks.mask_by_kind.Goals as goal

pub loop-i-init : goal.loop-i-init
loop-i-init c = let vs = variables_at c.args.file.now c.args.variables in
    let r = rule_of c.args.value.now in
    (omega arith, mask_start (in_model vs r) _ _ (omega arith), some_start (loose_at vs (valued c.args.lows.now) (valued c.args.highs.now) r) _ _ (omega arith))

pub term-t-requires : goal.term-t-requires
term-t-requires c = omega (arith, c.body-body.ensures.many)

pub way_of-way-requires : goal.way_of-way-requires
way_of-way-requires c = let t = term_handed c.args.value.now _ c.body-body.ensures c.term-t.ensures in
    omega (arith, ap (λ (t : Term). t.variable) t, c.requires.standing.inside, c.requires.standing.declared (c.loop-i.i - 1) (omega arith))

pub moved_up-bits-requires : goal.moved_up-bits-requires
moved_up-bits-requires c = mask_small c.loop-i.invariant.1 (omega arith)

pub loop-i-preserved : goal.loop-i-preserved
loop-i-preserved c = let vs = variables_at c.args.file.now c.args.variables in
    let r = rule_of c.args.value.now in
    let t = term_handed c.args.value.now _ c.body-body.ensures c.term-t.ensures in
    let k = rule_kinds vs r c.requires.opened_is c.requires.form_nonzero.0 c.kinds_of-kinds.ensures in
    let w = term_read vs (valued c.args.lows.now) (valued c.args.highs.now) r (c.loop-i.i - 1) k t
    (c.way_of-way.ensures c.args.variables (declared_at t (c.requires.standing.declared (c.loop-i.i - 1) (omega arith)))) in (
      omega arith,
      mask_before (in_model vs r) _ _ _ (omega arith) (omega arith) c.loop-i.invariant.1 w.first_is c.moved_up-bits.ensures,
      some_before (loose_at vs (valued c.args.lows.now) (valued c.args.highs.now) r) _ c.loop-i.i c.loop-i.free (omega arith) c.loop-i.invariant.2 w.loose_is,
    )

pub returns : goal.returns
returns c = let vs = variables_at c.args.file.now c.args.variables in
    let r = rule_of c.args.value.now in
    lent_mask vs (valued c.args.lows.now) (valued c.args.highs.now) r c.requires.form_nonzero.1 (mask_whole (in_model vs r) _ _ (omega arith) refl c.loop-i.invariant.1)
    (some_whole (loose_at vs (valued c.args.lows.now) (valued c.args.highs.now) r) _ c.loop-i.i c.loop-i.free (omega arith) c.loop-i.invariant.2) c.with_free.ensures
